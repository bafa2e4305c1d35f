-- What holds at each turn of the loop of `push_tokens` in src/tokens.rt.
use Rattle.std.proofs.Common.{◌≡◌, ◌++◌, drop}
use Rattle.tb_editor_navigation.specs.Tokens.{marks_from}
use Rattle.tb_editor_navigation.proofs.tokens.push_tokens.Given as goal

abbrev pub invariant-loop-i : goal.invariant-loop-i
invariant-loop-i l =
    l.marks.items ++ marks_from l.file_line l.text l.i (drop l.i l.tokens) ≡ l.initial.marks.items ++ marks_from l.file_line l.text 0 l.tokens
