-- What holds at each turn of the loop of `has_quick_fix` in src/requests.rt.
use Rattle.std.proofs.Common.{◌≡◌, drop}
use Rattle.serde_json.specs.View.{items_view}
use Rattle.tb_lsp_answers.specs.Requests.{has_quick_fix}
use Rattle.tb_lsp_answers.proofs.requests.has_quick_fix.Given as goal

abbrev pub invariant-loop-kind : goal.invariant-loop-kind
invariant-loop-kind l = has_quick_fix (items_view (drop l.kind-index l.kinds)) ≡ has_quick_fix (items_view l.kinds)
