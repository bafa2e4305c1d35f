-- What holds at each turn of the loop of `line_numbers` in src/program.rt.
use Rattle.std.proofs.Common.{◌≡◌, ◌++◌, drop}
use Rattle.tb_basic_syntax.specs.Source.{numbers}
use Rattle.tb_lower.specs.PlainData.{code_of}
use Rattle.tb_compiler_program.proofs.program.line_numbers.Given as goal

abbrev pub invariant-loop-line : goal.invariant-loop-line
invariant-loop-line l = l.numbers.items ++ numbers (code_of (drop l.line-index l.lines)) ≡ numbers (code_of l.lines)
