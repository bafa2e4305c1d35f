-- What holds at each turn of the loop of `edits_at` in src/renaming.rt.
use Rattle.std.proofs.Common.{◌≡◌, map, take}
use Rattle.serde_json.specs.View.{view}
use Rattle.tb_editor_values.specs.Edits.{edit_value}
use Rattle.tb_lsp_edits.proofs.renaming.edits_at.Given as goal

abbrev pub invariant-loop-occurrence : goal.invariant-loop-occurrence
invariant-loop-occurrence l = map view l.edits.items ≡ map (λ o. edit_value o.span l.text) (take l.occurrence-index l.found)
