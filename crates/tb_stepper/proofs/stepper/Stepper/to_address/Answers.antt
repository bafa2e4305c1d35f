-- The goals of `Stepper::to_address` in src/stepper.rt.
use Rattle.std.proofs.Common.{rules, ◌≡◌, ◌<◌, nat_lt}
use Rattle.std.specs.Prelude.{None, Ok, Err}
use Rattle.tb_kernal.specs.Machine.{state_of}
use Rattle.tb_stepper.specs.History.{Stepped, end_at}
use Rattle.tb_stepper.proofs.Walking.{walked_more, refused}
use Rattle.tb_stepper.proofs.stepper.Stepper.to_address.Goals as goal

pub returns-in_err-step : goal.returns-in_err-step
returns-in_err-step g c =
    let none : end_at c.args.address (nat_lt 0 c.loop-taken.taken) (state_of c.loop-taken.self.machine) ≡ None = search rules in
    let stepped : Stepped g.O.Outside.gives c.loop-taken.self (Err c.in_err-step.field-0.0) c.step.new.self = search rules in
    let answer : c.from_residual.result ≡ Err c.in_err-step.field-0.0 = search rules in
    let few : c.loop-taken.taken < c.args.limit = search rules in
    let reaches = refused g.O.Outside.gives c.args.address c.args.limit c.loop-taken.taken c.args.self.now c.loop-taken.self c.step.new.self
    c.in_err-step.field-0.0 c.loop-taken.invariant none few stepped in
    rw answer reaches

pub loop-taken-preserved : goal.loop-taken-preserved
loop-taken-preserved g c =
    let none : end_at c.args.address (nat_lt 0 c.loop-taken.taken) (state_of c.loop-taken.self.machine) ≡ None = search rules in
    let stepped : Stepped g.O.Outside.gives c.loop-taken.self (Ok c.in_ok-step.field-0) c.step.new.self = search rules in
    walked_more g.O.Outside.gives c.args.address c.loop-taken.taken c.args.self.now c.loop-taken.self c.step.new.self c.in_ok-step.field-0 c.loop-taken.invariant none stepped
