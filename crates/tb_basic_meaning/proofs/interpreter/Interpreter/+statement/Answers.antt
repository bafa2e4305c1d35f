-- The goals of `Interpreter::statement` in src/interpreter.rt.
use Rattle.std.proofs.Common.{Bool, ap, ◌∙◌}
use Rattle.std.proofs.lemmas.Result.{err_from_is_err_and}
use Rattle.tb_basic_syntax.specs.PlainData.{statement_of, lines_of}
use Rattle.tb_basic_syntax.specs.Source.{numbers}
use Rattle.tb_basic_meaning.specs.Steps.{joined}
use Rattle.tb_basic_meaning.specs.Control.{fall}
use Rattle.tb_basic_meaning.specs.Meaning.{does}
use Rattle.tb_basic_meaning.specs.Interpreted.{state_of}
use Rattle.tb_basic_meaning.proofs.Interpreting.{decided, ran_by}
use Rattle.tb_basic_meaning.proofs.interpreter.Interpreter.+statement.Goals as goal

pub returns-in_err-relate-in-If : goal.returns-in_err-relate-in-If
returns-in_err-relate-in-If t c =
    let p = err_from_is_err_and c.from_residual.result c.from_residual.ensures.1 in
    rw (p.1, p.2, c.in-If.is) (c.in_err-relate-in-If.ensures (decided (numbers (lines_of c.args.program.now)) c.args.number (statement_of c.in-If.statement.value)))

pub returns-then-branch : goal.returns-then-branch
returns-then-branch t c =
    let ns = numbers (lines_of c.args.program.now) in
    let go = decided ns c.args.number (statement_of c.in-If.statement.value) in
    let mid = c.relate.new.self in
    let does_it = rw c.deref-then-branch.ensures at c.statement.ensures in
    rw c.in-If.is
    (ran_by _ (does ns c.args.number (statement_of c.in-If.statement.value) (state_of mid)) c.args.self.now mid c.statement.new.self c.statement.result
    (c.in_ok-relate-in-If.ensures go ∙ ap (λ (b : Bool). joined mid.output.sent.items (go b (state_of mid))) c.if-branch.true) does_it)

pub returns-else-branch : goal.returns-else-branch
returns-else-branch t c =
    let ns = numbers (lines_of c.args.program.now) in
    let go = decided ns c.args.number (statement_of c.in-If.statement.value) in
    let mid = c.relate.new.self in
    rw c.in-If.is
    (ran_by _ (fall ns c.args.number (state_of mid)) c.args.self.now mid c.fall.new.self c.fall.result
    (c.in_ok-relate-in-If.ensures go ∙ ap (λ (b : Bool). joined mid.output.sent.items (go b (state_of mid))) c.if-branch.false) c.fall.ensures)
