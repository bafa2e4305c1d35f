-- What holds at each turn of the loop of `warnings` in src/warnings.rt.
use Rattle.std.proofs.Common.{◌≡◌, ◌++◌, drop}
use Rattle.std.specs.Prelude.{flat_map}
use Rattle.tb_basic_syntax.specs.PlainData.{lines_of}
use Rattle.tb_engine_findings.specs.Warnings.{another, last_with, on_line, warnings_on}
use Rattle.tb_engine_findings.proofs.warnings.warnings.Given as goal

abbrev pub invariant-loop-line : goal.invariant-loop-line
invariant-loop-line l =
    l.found.items ++ flat_map (λ x. on_line (lines_of l.program) x (another x (last_with x.number l.lines))) (drop l.line-index l.lines)
    ≡ warnings_on (lines_of l.program) l.lines
