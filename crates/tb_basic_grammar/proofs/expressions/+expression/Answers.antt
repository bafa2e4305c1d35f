-- The goals of `expression`, `whole`, `sum`, `signed`, `term`, `factor` and `group` in src/expressions.rt.
use Rattle.tb_basic_grammar.specs.Grammar.{Whole, Term, Factor}
use Rattle.tb_basic_grammar.specs.Reading.{factor_at, term_at}
use Rattle.tb_basic_grammar.specs.ReadValues.{seen}
use Rattle.tb_basic_grammar.proofs.Loop.{shrinks, goes_on, at_factor, at_term}
use Rattle.tb_basic_grammar.proofs.expressions.+expression.Goals as goal

pub term-loop-op-smaller : goal.term-loop-op-smaller
term-loop-op-smaller t c =
    shrinks Term Factor (factor_at c.args.nesting) (at_factor c.args.nesting) (seen c.loop-op.found) (seen c.in_ok-right.right) (seen c.in_ok-found-2.found) c.in-Some.op c.in-Some.operand.now
    c.in-Some.ensures c.in_ok-right.ensures c.in_ok-found-2.ensures

pub term-loop-op-preserved : goal.term-loop-op-preserved
term-loop-op-preserved t c =
    let i = c.loop-op.invariant in
    goes_on Term Factor (factor_at c.args.nesting) (at_factor c.args.nesting) (seen c.loop-op.found) (seen c.in_ok-right.right) (seen c.in_ok-found-2.found) c.in-Some.op c.in-Some.operand.now
    i.0 _ i.1 i.2 c.in-Some.ensures c.in_ok-right.ensures c.in_ok-found-2.ensures

pub sum-loop-op-smaller : goal.sum-loop-op-smaller
sum-loop-op-smaller t c =
    shrinks Whole Term (term_at c.args.nesting) (at_term c.args.nesting) (seen c.loop-op.found) (seen c.in_ok-right.right) (seen c.in_ok-found-2.found) c.in-Some.op c.in-Some.operand.now
    c.in-Some.ensures c.in_ok-right.ensures c.in_ok-found-2.ensures

pub sum-loop-op-preserved : goal.sum-loop-op-preserved
sum-loop-op-preserved t c =
    let i = c.loop-op.invariant in
    goes_on Whole Term (term_at c.args.nesting) (at_term c.args.nesting) (seen c.loop-op.found) (seen c.in_ok-right.right) (seen c.in_ok-found-2.found) c.in-Some.op c.in-Some.operand.now
    i.0 _ i.1 i.2 c.in-Some.ensures c.in_ok-right.ensures c.in_ok-found-2.ensures
