-- The goals of `run_machine` in src/programs.rt.
use Rattle.std.proofs.Common.{rules, ◌≡◌, false}
use Rattle.tb_engines.proofs.Ran.{ran_faulted, rests}
use Rattle.tb_engines.proofs.programs.run_machine.Goals as goal

pub returns-in-Ok-2-clause-answers : goal.returns-in-Ok-2-clause-answers
returns-in-Ok-2-clause-answers g c =
    let failed : c.in-Ok-2.field-0.is_written ≡ false = search rules in
    ran_faulted g.O.Outside.gives g.V.Watch.hears _ _ _ _ _ _ _ _ _ _ _ c.in-Ok-2.ensures.ran failed c.requires

pub returns-in-Ok-2-clause-left : goal.returns-in-Ok-2-clause-left
returns-in-Ok-2-clause-left g c =
    (_, rests g.O.Outside.gives g.V.Watch.hears _ _ _ _ _ _ _ _ _ _ _ c.in-Ok-2.ensures.ran)
