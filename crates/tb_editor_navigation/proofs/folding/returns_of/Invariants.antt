-- What holds at each turn of the loop of `returns_of` in src/folding.rt.
use Rattle.std.proofs.Common.{◌≡◌, ◌++◌, drop}
use Rattle.tb_basic_names.specs.Sources.{edits_of}
use Rattle.tb_editor_navigation.specs.Folds.{returns_from}
use Rattle.tb_editor_navigation.proofs.folding.returns_of.Given as goal

abbrev pub invariant-loop-i : goal.invariant-loop-i
invariant-loop-i l =
    l.places.items ++ returns_from (edits_of l.source.lines.items) l.i (drop l.i l.source.lines.items)
    ≡ returns_from (edits_of l.source.lines.items) 0 l.source.lines.items
