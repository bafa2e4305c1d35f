-- The goals of `profile_program` in src/running.rt.
use Rattle.std.proofs.lemmas.Result.{err_from_is_err_and}
use Rattle.tb_engines.specs.Programs.{plain_settings_of}
use Rattle.tb_engine_profile.proofs.Profiling.{not_started, started}
use Rattle.tb_engine_profile.proofs.running.profile_program.Goals as goal

pub returns : goal.returns
returns g c =
    started (plain_settings_of g.O.Outside.gives c.args.outside.now c.args.keyboard c.args.limit) c.args.program.now
    c.in_ok-machine.machine c.profile_machine.result (c.in_ok-machine.ensures.loadable c.requires) c.profile_machine.ensures

pub returns-in_err-machine : goal.returns-in_err-machine
returns-in_err-machine g c =
    let p = err_from_is_err_and c.from_residual.result c.from_residual.ensures.1 in
    rw (p.1, p.2) (not_started (plain_settings_of g.O.Outside.gives c.args.outside.now c.args.keyboard c.args.limit) c.args.program.now _
    (c.in_err-machine.ensures.loadable c.requires))
