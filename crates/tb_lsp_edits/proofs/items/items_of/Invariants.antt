-- What holds at each turn of the loop of `items_of` in src/items.rt.
use Rattle.std.proofs.Common.{◌≡◌, map, take}
use Rattle.serde_json.specs.View.{view}
use Rattle.tb_lsp_edits.specs.Items.{item_value}
use Rattle.tb_lsp_edits.proofs.items.items_of.Given as goal

abbrev pub invariant-loop-candidate : goal.invariant-loop-candidate
invariant-loop-candidate l = map view l.items.items ≡ map (item_value l.span) (take l.candidate-index l.found)
