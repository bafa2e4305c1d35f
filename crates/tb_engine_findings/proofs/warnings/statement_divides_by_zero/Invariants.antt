-- What holds at each turn of the loop of `statement_divides_by_zero` in src/warnings.rt.
use Rattle.std.proofs.Common.{◌≡◌, drop, map}
use Rattle.std.specs.List.{list_any}
use Rattle.tb_basic_syntax.specs.PlainData.{expression_of, statement_of}
use Rattle.tb_engine_findings.specs.Warnings.{divides_by_zero, statement_divides_by_zero}
use Rattle.tb_engine_findings.proofs.warnings.statement_divides_by_zero.Given as goal

abbrev pub invariant-loop-e : goal.invariant-loop-e
invariant-loop-e l =
    list_any divides_by_zero (map (λ e. expression_of e.now) (drop l.e-index l.e-items)) ≡ statement_divides_by_zero (statement_of l.statement)
