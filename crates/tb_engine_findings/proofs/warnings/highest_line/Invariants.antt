-- What holds at each turn of the loop of `highest_line` in src/warnings.rt.
use Rattle.std.proofs.Common.{◌≡◌, ◌∷◌}
use Rattle.tb_basic_syntax.specs.PlainData.{lines_of}
use Rattle.tb_basic_syntax.specs.Source.{numbers}
use Rattle.tb_basic_meaning.specs.Control.{highest}
use Rattle.tb_engine_findings.proofs.warnings.highest_line.Given as goal

-- the highest of the rest, with the number before it, is the highest of all
abbrev pub invariant-loop-number : goal.invariant-loop-number
invariant-loop-number l = highest (l.highest ∷ numbers (lines_of l.number-iterator)) ≡ highest (numbers (lines_of l.program))
