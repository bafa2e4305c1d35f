-- What holds at each turn of the loop of `location_values` in src/values.rt.
use Rattle.std.proofs.Common.{◌≡◌, map, take}
use Rattle.serde_json.specs.View.{view}
use Rattle.tb_editor_values.specs.Ranges.{location_of}
use Rattle.tb_editor_navigation.proofs.values.location_values.Given as goal

abbrev pub invariant-loop-occurrence : goal.invariant-loop-occurrence
invariant-loop-occurrence l = map view l.values.items ≡ map (λ o. location_of l.uri o.span) (take l.occurrence-index l.found)
