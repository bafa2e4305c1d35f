-- What holds at each turn of the loop of `marks_of` in src/tokens.rt.
use Rattle.std.proofs.Common.{◌≡◌, ◌+◌, ◌++◌, drop}
use Rattle.tb_editor_navigation.specs.Tokens.{marks_in}
use Rattle.tb_editor_navigation.proofs.tokens.marks_of.Given as goal

abbrev pub invariant-loop-i : goal.invariant-loop-i
invariant-loop-i l = l.marks.items ++ marks_in (l.i + 1) (drop l.i l.source.lines.items) ≡ marks_in 1 l.source.lines.items
