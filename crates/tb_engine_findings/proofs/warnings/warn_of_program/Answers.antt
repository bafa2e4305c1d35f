-- The goals of `warn_of_program` in src/warnings.rt.
use Rattle.std.proofs.Common.{sym}
use Rattle.std.specs.Map.Iter.{deref_pair}
use Rattle.std.proofs.lemmas.Map.Iter.{rest_more}
use Rattle.tb_basic_syntax.specs.PlainData.{lines_of}
use Rattle.tb_engine_findings.proofs.Found.{found_here}
use Rattle.tb_engine_findings.proofs.warnings.warn_of_program.Goals as goal

pub returns-then-number-line : goal.returns-then-number-line
returns-then-number-line c =
    let first = rest_more deref_pair c.loop-number.number-iterator c.next.new.self c.next.result (c.in-Some.number, c.in-Some.statement) c.in-Some.is c.next.ensures.steps in
    let here = found_here (lines_of c.args.facts.now.program.now) c.args.line.now.number c.in-Some.number.now c.in-Some.statement.now
    c.loop-number.number-iterator c.next.new.self first c.if-number-line.true c.loop-number.invariant.same in
    rw (here, sym c.loop-number.invariant.found) c.warn_of_statement.ensures
