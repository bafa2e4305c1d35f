-- The goals of `each_address` in src/addresses.rt.
use Rattle.std.proofs.Common.{rules, ◌≡◌, map, ap, refl, ◌∙◌}
use Rattle.tb_engine_profile_table.specs.Addresses.{each_from, each_address}
use Rattle.tb_engine_profile_table.specs.Rows.{start_pair}
use Rattle.tb_engine_profile_table.proofs.Addressing.{mapped_more}
use Rattle.tb_engine_profile_table.proofs.addresses.each_address.Goals as goal

pub loop-before-init : goal.loop-before-init
unfolding each_from
loop-before-init c = ap (map start_pair) c.new-starts.ensures.items

pub loop-before-preserved : goal.loop-before-preserved
loop-before-preserved c = mapped_more _ _ _ c.loop-before.before c.in_ok-push.ensures.items c.loop-before.invariant refl

pub returns : goal.returns
unfolding each_address
returns c =
    let all : c.loop-before.before ≡ 65535 = search rules in
    c.loop-before.invariant ∙ ap (λ n. each_from n 1) all
