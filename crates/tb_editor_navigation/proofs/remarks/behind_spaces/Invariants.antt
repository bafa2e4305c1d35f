-- What holds at each turn of the loop of `behind_spaces` in src/remarks.rt.
use Rattle.std.proofs.Common.{◌≡◌, drop}
use Rattle.tb_editor_navigation.specs.Remarks.{behind_spaces}
use Rattle.tb_editor_navigation.proofs.remarks.behind_spaces.Given as goal

abbrev pub invariant-loop-i : goal.invariant-loop-i
invariant-loop-i l = behind_spaces (drop l.i l.text) ≡ behind_spaces l.text
