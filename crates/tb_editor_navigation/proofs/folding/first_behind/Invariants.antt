-- What holds at each turn of the loop of `first_behind` in src/folding.rt.
use Rattle.std.proofs.Common.{◌≡◌, drop}
use Rattle.tb_editor_navigation.specs.Folds.{first_behind}
use Rattle.tb_editor_navigation.proofs.folding.first_behind.Given as goal

abbrev pub invariant-loop-other : goal.invariant-loop-other
invariant-loop-other l = first_behind l.place (drop l.other-index l.places) ≡ first_behind l.place l.places
