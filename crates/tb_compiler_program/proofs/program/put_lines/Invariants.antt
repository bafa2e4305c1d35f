-- What holds at each turn of the loop of `put_lines` in src/program.rt.
use Rattle.std.proofs.Common.{◌≡◌, ◌++◌, map, length}
use Rattle.tb_asm.specs.Layout.{entry_of}
use Rattle.tb_lower.specs.PlainData.{code_of}
use Rattle.tb_compiler_program.specs.Program.{AreCodable, AreInTurn, lines_code}
use Rattle.tb_compiler_program.proofs.program.put_lines.Given as goal

abbrev pub invariant-loop-rest : goal.invariant-loop-rest
invariant-loop-rest l =
    AreCodable (code_of l.rest)
    × AreInTurn l.numbers (code_of l.rest)
    × (map entry_of l.items.items ++ lines_code l.numbers l.seed (code_of l.rest) ≡ map entry_of l.initial.items.items
    ++ lines_code l.numbers l.seed (code_of l.fn.lines))

abbrev pub decreases-loop-rest : goal.decreases-loop-rest
decreases-loop-rest l = length l.rest
