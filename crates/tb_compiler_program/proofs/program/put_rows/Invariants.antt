-- What holds at each turn of the loop of `put_rows` in src/program.rt.
use Rattle.std.proofs.Common.{◌≡◌, ◌++◌, map, drop}
use Rattle.tb_asm.specs.Layout.{entry_of}
use Rattle.tb_compiler_program.specs.Program.{rows_code}
use Rattle.tb_compiler_program.proofs.program.put_rows.Given as goal

abbrev pub invariant-loop-number : goal.invariant-loop-number
invariant-loop-number l = map entry_of l.items.items ++ rows_code (drop l.number-index l.numbers) ≡ map entry_of l.initial.items.items ++ rows_code l.numbers
