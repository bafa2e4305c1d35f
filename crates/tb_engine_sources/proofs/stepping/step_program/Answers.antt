-- The goals of `step_program` in src/stepping.rt.
use Rattle.std.proofs.lemmas.Result.{err_from_is_err_and}
use Rattle.tb_engine_play.specs.Plays.{quietly}
use Rattle.tb_engine_sources.proofs.Stepped.{not_stepped, stepped}
use Rattle.tb_engine_sources.proofs.stepping.step_program.Goals as goal

pub returns : goal.returns
returns c =
    stepped (quietly c.args.keyboard.text.items c.args.keyboard.answers.items c.args.limit) c.args.program.now c.args.commands.now c.in_ok-machine.machine
    c.in-Ok.stepper c.answers.new.stepper c.in_ok-answers.field-0.items (c.in_ok-machine.ensures.loadable c.requires) c.in-Ok.ensures.held
    c.in_ok-answers.ensures

pub returns-in_err-machine : goal.returns-in_err-machine
returns-in_err-machine c =
    let p = err_from_is_err_and c.from_residual.result c.from_residual.ensures.1 in
    rw (p.1, p.2) (not_stepped (quietly c.args.keyboard.text.items c.args.keyboard.answers.items c.args.limit) c.args.program.now c.args.commands.now _
    (c.in_err-machine.ensures.loadable c.requires))
