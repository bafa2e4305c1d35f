-- What holds at each turn of the loop of `highlight_values` in src/values.rt.
use Rattle.std.proofs.Common.{◌≡◌, map, take}
use Rattle.serde_json.specs.View.{view}
use Rattle.tb_editor_navigation.specs.Values.{highlight_value}
use Rattle.tb_editor_navigation.proofs.values.highlight_values.Given as goal

abbrev pub invariant-loop-occurrence : goal.invariant-loop-occurrence
invariant-loop-occurrence l = map view l.values.items ≡ map highlight_value (take l.occurrence-index l.found)
