-- What holds at each turn of the loop of `jump_fault` in src/jumps.rt.
use Rattle.std.proofs.Common.{◌≡◌}
use Rattle.tb_basic_syntax.specs.PlainData.{lines_of}
use Rattle.tb_basic_syntax.specs.Source.{numbers}
use Rattle.tb_basic_renumber.specs.Jumps.{first_fault}
use Rattle.tb_basic_renumber.proofs.jumps.jump_fault.Given as goal

-- what is found in the rest is what is found in all
abbrev pub invariant-loop-line : goal.invariant-loop-line
invariant-loop-line l =
    first_fault (numbers (lines_of l.program)) (lines_of l.line-iterator) ≡ first_fault (numbers (lines_of l.program)) (lines_of l.program)
