-- The goals of `watches_in` in src/setting.rt.
use Rattle.std.proofs.Common.{map, ap, ◌∙◌}
use Rattle.std.proofs.lemmas.List.{take_all}
use Rattle.serde_json.specs.View.{view}
use Rattle.tb_dap_requests.specs.Setting.{index_of, watch_in}
use Rattle.tb_dap_requests.proofs.Lists.{watched_there}
use Rattle.tb_dap_requests.proofs.setting.watches_in.Goals as goal

pub returns : goal.returns
returns c =
    let whole = take_all c.loop-value.value-index c.deref-value-items.result.now c.loop-value-test.false ∙ c.deref-value-items.ensures.value in
    watched_there (view c.args.arguments.now) (map view c.in-Some.values.now.items) (map index_of c.loop-value.found.items)
    (c.loop-value.invariant ∙ ap (λ values. map watch_in (map view values)) whole) c.in-Some.ensures
