-- What holds at each turn of the loop of `folds` in src/folding.rt.
use Rattle.std.proofs.Common.{◌≡◌, ◌++◌, drop, false, map}
use Rattle.serde_json.specs.View.{view}
use Rattle.tb_editor_navigation.specs.Folds.{folds_from, returns_of}
use Rattle.tb_editor_navigation.proofs.folding.folds.Given as goal

abbrev pub invariant-loop-i : goal.invariant-loop-i
invariant-loop-i l =
    map view l.found.items ++ folds_from l.source.lines.items (returns_of l.source.lines.items) l.i l.is_behind (drop l.i l.source.lines.items)
    ≡ folds_from l.source.lines.items (returns_of l.source.lines.items) 0 false l.source.lines.items
