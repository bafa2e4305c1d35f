-- The goals of `read_expression` in src/expressions.rt.
use Rattle.std.proofs.Common.{map, subst}
use Rattle.tb_assembly_text.specs.Tokens.{token_of}
use Rattle.tb_assembly_text.specs.Expressions.{column_at, state_of, sum_of}
use Rattle.tb_assembly_text.specs.Reads.{Reads}
use Rattle.tb_assembly_text.proofs.Reading.{move_stops, move_goes, goes_on, ends_before}
use Rattle.tb_assembly_text.proofs.expressions.read_expression.Goals as goal

pub loop-i-preserved : goal.loop-i-preserved
loop-i-preserved c =
    goes_on c.args.scope.now c.args.end c.args.tokens.now c.loop-i.i _ c.loop-i-test.true c.loop-i.operand (state_of c.loop-i.reading) _ c.loop-i.invariant
    c.in-Some.wanted (state_of c.take.new.reading) (move_goes _ c.in_ok-wanted.field-0 c.in-Some.wanted _ c.in_ok-wanted.ensures c.in-Some.is)

pub returns-in-None : goal.returns-in-None
returns-in-None c =
    let ts = map token_of c.args.tokens.now in
    subst (λ w. Reads (λ r. (sum_of r.0, map token_of r.1.now)) w c.finish_before.result)
    (ends_before c.args.scope.now c.args.end c.args.tokens.now c.loop-i.i _ c.loop-i-test.true c.loop-i.operand (state_of c.loop-i.reading) _ c.loop-i.invariant
    (state_of c.take.new.reading) (move_stops _ c.in_ok-wanted.field-0 _ c.in_ok-wanted.ensures c.in-None.is) (column_at c.args.end ts) c.column_at-column.result
    c.column_at-column.ensures (map token_of c.behind.result.now) c.behind.ensures)
    c.finish_before.ensures
