-- The goals of `Interpreter::assign` in src/interpreter.rt.
use Rattle.std.proofs.Common.{ℕ, sym, ap₂, ◌∙◌}
use Rattle.std.proofs.lemmas.Result.{err_from_is_err_and}
use Rattle.tb_words.specs.Letters.{letter_index}
use Rattle.tb_basic_syntax.specs.PlainData.{lines_of}
use Rattle.tb_basic_syntax.specs.Source.{numbers}
use Rattle.tb_basic_meaning.specs.Steps.{joined}
use Rattle.tb_basic_meaning.specs.declared.output.Output.{Output}
use Rattle.tb_basic_meaning.specs.Control.{State, fall}
use Rattle.tb_basic_meaning.specs.Interpreted.{state_of}
use Rattle.tb_basic_meaning.specs.Meaning.{stored}
use Rattle.tb_basic_meaning.proofs.Interpreting.{ran_by}
use Rattle.tb_basic_meaning.proofs.interpreter.Interpreter.assign.Goals as goal

pub returns-in_err-value : goal.returns-in_err-value
returns-in_err-value c =
    let p = err_from_is_err_and c.from_residual.result c.from_residual.ensures.1 in
    let go = λ (v : ℕ) (s : State). fall (numbers (lines_of c.args.program.now)) c.args.number (stored (letter_index c.args.letter) v s) in
    rw (p.1, p.2) (c.in_err-value.ensures go)

pub returns : goal.returns
returns c =
    let ns = numbers (lines_of c.args.program.now) in
    let go = λ (v : ℕ) (s : State). fall ns c.args.number (stored (letter_index c.args.letter) v s) in
    ran_by _ (fall ns c.args.number (state_of c.store.new.self)) c.args.self.now c.store.new.self c.fall.new.self c.fall.result
    (c.in_ok-value.ensures go ∙ ap₂ (λ (o : Output) (s : State). joined o.sent.items (fall ns c.args.number s)) (sym c.store.ensures.output) (sym c.store.ensures.state))
    c.fall.ensures
