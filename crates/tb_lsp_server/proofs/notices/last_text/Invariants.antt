-- What holds at each turn of the loop of `last_text` in src/notices.rt.
use Rattle.std.proofs.Common.{◌≡◌, None, drop}
use Rattle.std.specs.Prelude.{option_map}
use Rattle.serde_json.specs.View.{items_view}
use Rattle.tb_lsp_server.specs.Notices.{last_text}
use Rattle.tb_lsp_server.proofs.notices.last_text.Given as goal

abbrev pub invariant-loop-change : goal.invariant-loop-change
invariant-loop-change l = last_text (option_map (λ t. t.now) l.found) (items_view (drop l.change-index l.changes)) ≡ last_text None (items_view l.changes)
