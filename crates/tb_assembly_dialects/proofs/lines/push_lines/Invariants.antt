-- What holds at each turn of the loop of `push_lines` in src/lines.rt.
use Rattle.std.proofs.Common.{◌≡◌, ◌++◌, [], drop}
use Rattle.tb_assembly_dialects.specs.Lines.{lines_from, lines_spelled}
use Rattle.tb_assembly_dialects.proofs.lines.push_lines.Given as goal

abbrev pub invariant-loop-byte : goal.invariant-loop-byte
invariant-loop-byte l =
    l.text.items ++ lines_spelled l.dialect (lines_from l.line.items (drop l.byte-index l.source))
    ≡ l.initial.text.items ++ lines_spelled l.dialect (lines_from [] l.source)
