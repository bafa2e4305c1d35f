-- What holds at each turn of the loop of `warn_of_program` in src/warnings.rt.
use Rattle.std.proofs.Common.{◌≡◌}
use Rattle.tb_basic_syntax.specs.PlainData.{lines_of}
use Rattle.tb_basic_meaning.specs.Control.{content_at}
use Rattle.tb_engine_findings.proofs.warnings.warn_of_program.Given as goal

abbrev pub invariant-loop-number : goal.invariant-loop-number
invariant-loop-number l = record {
  found : l.found.items ≡ l.initial.found.items;
  same : content_at (lines_of l.number-iterator) l.line.number ≡ content_at (lines_of l.facts.program.now) l.line.number;
}
