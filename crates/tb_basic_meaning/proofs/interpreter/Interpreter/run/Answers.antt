-- The goals of `Interpreter::run` in src/interpreter.rt.
use Rattle.std.proofs.Common.{◌≡◌, ◌-◌, refl, sym, ap, ◌∙◌, arith}
use Rattle.std.proofs.lemmas.Result.{IfOk-weaker}
use Rattle.tb_basic_syntax.specs.PlainData.{lines_of}
use Rattle.tb_basic_meaning.specs.Steps.{GoesOn, advance_by}
use Rattle.tb_basic_meaning.specs.Meaning.{line}
use Rattle.tb_basic_meaning.specs.Interpreted.{state_of}
use Rattle.tb_basic_meaning.proofs.Interpreting.{run_goes_on, run_stops}
use Rattle.tb_basic_meaning.proofs.interpreter.Interpreter.run.Goals as goal

pub returns-in-Err : goal.returns-in-Err
returns-in-Err c =
    let stopped = run_stops (line (lines_of c.args.program.now)) c.args.limit c.loop.counter (state_of c.loop.self) c.loop.self.output.sent.items
    c.line.new.self.output.sent.items _ c.in-Err.stop c.loop-test.true c.loop.invariant c.in-Err.ensures in
    IfOk-weaker c.stop.result _ _ (λ end h. h _ stopped) c.stop.ensures

pub loop-preserved : goal.loop-preserved
loop-preserved c =
    run_goes_on (line (lines_of c.args.program.now)) c.args.limit c.loop.counter (state_of c.loop.self) (state_of c.line.new.self)
    c.loop.self.output.sent.items c.line.new.self.output.sent.items _ c.loop-test.true c.loop.invariant c.in-Ok.ensures

pub returns : goal.returns
returns c =
    let done : c.args.limit - c.loop.counter ≡ 0 = omega arith in
    (state_of c.loop.self, sym c.loop.invariant ∙ ap (λ n. advance_by (line (lines_of c.args.program.now)) n (GoesOn (state_of c.loop.self) c.loop.self.output.sent.items)) done, refl, refl)
