-- The goals of `step` in src/dialogue.rt.
use Rattle.tb_kernal.specs.Machine.{state_of, status, is_stopped}
use Rattle.tb_stepper.proofs.Walking.{status_by}
use Rattle.tb_debug_stepping.proofs.dialogue.step.Goals as goal

pub returns : goal.returns
returns g c = (
  status_by g.O.Outside.gives (is_stopped (status (state_of c.args.stepper.now.machine))) c.args.stepper.now c.step.new.self c.in_ok-step.field-0 c.in_ok-step.ensures,
  c.registers.ensures,
)
