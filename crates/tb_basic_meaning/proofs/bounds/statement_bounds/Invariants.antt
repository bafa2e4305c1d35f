-- What holds at each turn of the loop of `statement_bounds` in src/bounds.rt.
use Rattle.std.proofs.Common.{◌≡◌, ◌++◌, drop, map}
use Rattle.std.specs.Prelude.{flat_map}
use Rattle.tb_basic_syntax.specs.PlainData.{expression_of, statement_of}
use Rattle.tb_basic_meaning.specs.Bounds.{expression_bounds, statement_bounds}
use Rattle.tb_basic_meaning.proofs.bounds.statement_bounds.Given as goal

abbrev pub invariant-loop-e : goal.invariant-loop-e
invariant-loop-e l =
    l.bounds.items ++ flat_map expression_bounds (map (λ e. expression_of e.now) (drop l.e-index l.e-items)) ≡ statement_bounds (statement_of l.statement)
