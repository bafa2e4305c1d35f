-- The goals of `near_name` in src/near.rt.
use Rattle.std.proofs.Common.{◌≡◌, ◌∙◌, ◌/◌, ◌+◌, ap, length, map, option_map, subst, List, ℕ}
use Rattle.std.specs.Prelude.{IfOk}
use Rattle.std.specs.Char.{to_ascii_lowercase}
use Rattle.tb_basic_signs.specs.Near as spec
use Rattle.tb_basic_signs.specs.Names.{controls}
use Rattle.tb_basic_signs.proofs.near.near_name.Goals as goal

pub returns : goal.returns
returns c =
    let counted : c.after_count.result.now ≡ spec.after_count c.args.inside.now = c.after_count.ensures in
    let written : c.written_name.result.now ≡ spec.written_name (spec.after_count c.args.inside.now) = c.written_name.ensures ∙ ap spec.written_name counted in
    let letters : c.deref.result.now ≡ map to_ascii_lowercase (spec.written_name (spec.after_count c.args.inside.now)) =
    c.deref.ensures.value ∙ c.in_ok-name.ensures.ok ∙ ap (λ w. map to_ascii_lowercase w) written in
    subst (λ (w : List ℕ). IfOk c.nearest.result (λ name. option_map (λ n. n.now) name ≡ spec.nearest w (length w / 2 + 1) controls)) letters c.nearest.ensures
