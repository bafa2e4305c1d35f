-- What holds at each turn of the loop of `remarks` in src/folding.rt.
use Rattle.std.proofs.Common.{◌≡◌, ◌+◌, drop}
use Rattle.tb_editor_navigation.specs.Folds.{remarks}
use Rattle.tb_editor_navigation.proofs.folding.remarks.Given as goal

abbrev pub invariant-loop-i : goal.invariant-loop-i
invariant-loop-i l = remarks (drop l.i l.lines) + l.i ≡ remarks l.lines
