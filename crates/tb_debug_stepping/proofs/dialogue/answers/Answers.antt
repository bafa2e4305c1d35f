-- The goals of `answers` in src/dialogue.rt.
use Rattle.std.proofs.Common.{◌≡◌, ◌++◌, ◌∷◌, [], rules}
use Rattle.std.specs.Prelude.{Some, None}
use Rattle.tb_debug_stepping.specs.Commands.{asked_in}
use Rattle.tb_debug_stepping.specs.Lines.{lines_of}
use Rattle.tb_debug_stepping.specs.Answers.{text_of}
use Rattle.tb_debug_stepping.proofs.LineLemmas.{no_lines}
use Rattle.tb_debug_stepping.proofs.Talking.{told_more, told_all, told_quit, responds_as, none_of}
use Rattle.tb_debug_stepping.proofs.dialogue.answers.Goals as goal

pub returns-in_default-2 : goal.returns-in_default-2
returns-in_default-2 g c =
    told_quit g.O.Outside.gives c.args.limit c.args.stepper.now c.answering.stepper c.respond.new.stepper
    (lines_of c.args.commands.now) (lines_of c.in-Some.left.now) (lines_of c.answering.rest.now) c.answering.text.items c.in-Some.line.now
    c.answering.invariant c.in-Some.ensures.0
    (responds_as g.O.Outside.gives c.args.limit c.answering.stepper c.respond.new.stepper _ (asked_in c.in-Some.line.now) c.in_ok-answer.field-0 None
    c.read_command.ensures (none_of c.in_ok-answer.field-0 c.in_default-2.not-Some) c.in_ok-answer.ensures)

pub answering-preserved : goal.answering-preserved
answering-preserved g c =
    let shown : c.push_line.new.text.items ≡ c.answering.text.items ++ (text_of c.in-Some-2.answer ++ 10 ∷ []) = search rules in
    let told = told_more g.O.Outside.gives c.args.limit c.args.stepper.now c.answering.stepper c.respond.new.stepper
    (lines_of c.args.commands.now) (lines_of c.in-Some.left.now) (lines_of c.answering.rest.now) c.answering.text.items c.in-Some.line.now c.in-Some-2.answer
    c.answering.invariant c.in-Some.ensures.0
    (responds_as g.O.Outside.gives c.args.limit c.answering.stepper c.respond.new.stepper _ (asked_in c.in-Some.line.now) c.in_ok-answer.field-0 (Some c.in-Some-2.answer)
    c.read_command.ensures c.in-Some-2.is c.in_ok-answer.ensures) in
    rw shown told

pub returns : goal.returns
returns g c =
    told_all g.O.Outside.gives c.args.limit c.args.stepper.now c.answering.stepper (lines_of c.args.commands.now) (lines_of c.answering.rest.now) c.answering.text.items
    c.answering.invariant (no_lines c.answering.rest.now c.in_default.ensures)
