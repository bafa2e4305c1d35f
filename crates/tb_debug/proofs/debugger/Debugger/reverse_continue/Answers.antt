-- The goals of `Debugger::reverse_continue` in src/searching.rt.
use Rattle.std.proofs.Common.{◌<◌, arith, inl, inr, refl}
use Rattle.tb_debug.specs.Debuggers.{begun_by}
use Rattle.tb_debug.proofs.Leading.{newest_past}
use Rattle.tb_debug.proofs.Stopping.{none_begun}
use Rattle.tb_debug.proofs.debugger.Debugger.reverse_continue.Goals as goal

pub returns-then-self-eq0-clause-stop : goal.returns-then-self-eq0-clause-stop
returns-then-self-eq0-clause-stop c = λ start none on.
    let d = c.args.self.now in
    let begun = c.if-self-eq0.true in
    (0, none_begun d start on begun, inr (begun, refl, (refl, c.standing.ensures)))

pub returns-clause-stop : goal.returns-clause-stop
returns-clause-stop c = λ start none on.
    let d = c.args.self.now in
    let time = c.in_ok-time.time in
    let newest = c.in_ok-time.ensures start none on in
    let some : 0 < begun_by d = omega (arith, c.if-self-eq0.false) in
    let back = c.in_ok-reached.ensures in
    (time, newest, inl (back.back start none on (newest_past d start time on some newest), back.time))
