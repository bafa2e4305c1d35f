-- The goals of `run_steps` in src/values.rt.
use Rattle.std.proofs.Common.{w32, ap}
use Rattle.std.proofs.lemmas.Int.{to_z-of_z}
use Rattle.tb_assembly_text.specs.Expressions.{marks_of}
use Rattle.tb_assembly_meaning.specs.Names.{named}
use Rattle.tb_assembly_meaning.specs.Values.{run}
use Rattle.tb_assembly_meaning.proofs.Next.{step_goes, step_fails, steps_at}
use Rattle.tb_assembly_meaning.proofs.values.run_steps.Goals as goal

pub loop-step-preserved : goal.loop-step-preserved
loop-step-preserved c =
    step_goes (named c.args.symbols.now.entries) _ c.args.steps.now c.loop-step.step-index c.step-item.result c.loop-step-test.true c.step-item.is c.loop-step.stack _
    c.loop-step.invariant c.take_step.new.stack c.in-Ok.ensures

pub returns-in-Err : goal.returns-in-Err
returns-in-Err c =
    steps_at (Unit {0}) _ _
    (ap (λ z. run (named c.args.symbols.now.entries) z (marks_of c.args.steps.now) c.args.stack.now) (to_z-of_z w32 c.args.here c.ranges.here))
    c.in-Err.error c.take_step.new.stack
    (step_fails (named c.args.symbols.now.entries) _ c.args.steps.now c.loop-step.step-index c.step-item.result c.loop-step-test.true c.step-item.is c.loop-step.stack _
    c.loop-step.invariant (Unit {0}) c.in-Err.error c.take_step.new.stack c.in-Err.ensures)
