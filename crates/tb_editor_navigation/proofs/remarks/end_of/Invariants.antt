-- What holds at each turn of the loop of `end_of` in src/remarks.rt.
use Rattle.std.proofs.Common.{◌≡◌, ◌≤◌, drop}
use Rattle.tb_editor_navigation.specs.Remarks.{end_from}
use Rattle.tb_editor_navigation.proofs.remarks.end_of.Given as goal

abbrev pub invariant-loop-i : goal.invariant-loop-i
invariant-loop-i l = (end_from l.i l.end (drop l.i l.text) ≡ end_from 0 0 l.text) × (l.end ≤ l.i)
