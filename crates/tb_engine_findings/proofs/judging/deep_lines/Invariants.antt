-- What holds at each turn of the loop of `deep_lines` in src/judging.rt.
use Rattle.std.proofs.Common.{◌≡◌, ◌++◌}
use Rattle.tb_basic_syntax.specs.PlainData.{lines_of}
use Rattle.tb_engine_findings.specs.Verdicts.{deep_lines}
use Rattle.tb_engine_findings.proofs.judging.deep_lines.Given as goal

abbrev pub invariant-loop-number : goal.invariant-loop-number
invariant-loop-number l = l.deep.items ++ deep_lines (lines_of l.number-iterator) ≡ deep_lines (lines_of l.program)
