-- The goals of `first_end` in src/cuts.rt.
use Rattle.std.proofs.Common.{arith}
use Rattle.tb_basic_text.proofs.FirstLine.{rest_of}
use Rattle.tb_basic_renumber.proofs.FirstEnds.{behind_first, behind_last, first_end, last_end}
use Rattle.tb_basic_renumber.proofs.cuts.first_end.Goals as goal

pub returns-then-matches-clause-lines : goal.returns-then-matches-clause-lines
returns-then-matches-clause-lines c =
    let lines = rw (rest_of c.args.text.now c.loop-i.i) at c.cut_end.ensures.lines in
    behind_first c.args.text.now _ c.loop-i.i c.loop-i-test.true c.loop-i.invariant lines

pub returns-then-matches-clause-ends : goal.returns-then-matches-clause-ends
returns-then-matches-clause-ends c =
    let ends = rw (rest_of c.args.text.now c.loop-i.i) at c.cut_end.ensures.ends in
    first_end c.args.text.now c.loop-i.i _ _ c.loop-i-test.true c.loop-i.invariant ends

pub returns-clause-lines : goal.returns-clause-lines
returns-clause-lines c = behind_last c.args.text.now c.requires (λ k below. c.loop-i.invariant k (omega (arith, below, c.loop-i-test.false)))

pub returns-clause-ends : goal.returns-clause-ends
returns-clause-ends c = last_end c.args.text.now c.requires (λ k below. c.loop-i.invariant k (omega (arith, below, c.loop-i-test.false)))
