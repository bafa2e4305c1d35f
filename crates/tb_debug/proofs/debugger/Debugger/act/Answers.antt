-- The goals of `Debugger::act` in src/respond.rt.
use Rattle.tb_debug.proofs.Responding.{tells_walk}
use Rattle.tb_debug.proofs.debugger.Debugger.act.Goals as goal

pub returns-in_ok-answer-in-Some-clause-tells : goal.returns-in_ok-answer-in-Some-clause-tells
returns-in_ok-answer-in-Some-clause-tells g c =
    let (walk, leads, stands, same, stops) = rw c.in-Some.is at c.in_ok-reached.ensures.walks in
    (tells_walk c.args.limit c.args.command c.args.self.now c.walk_watched.new.self c.stop.new.self c.in-Some.reached _ c.in_ok-answer-in-Some.answer walk leads
    stands same stops c.in_ok-answer-in-Some.ensures.shown c.in_ok-answer-in-Some.ensures.tells).0

pub returns-in_ok-answer-in-Some-clause-shown : goal.returns-in_ok-answer-in-Some-clause-shown
returns-in_ok-answer-in-Some-clause-shown g c = λ never.
    let (walk, leads, stands, same, stops) = rw c.in-Some.is at c.in_ok-reached.ensures.walks in
    absurd (never walk)

pub returns-in_ok-answer-in-Some-clause-leaves : goal.returns-in_ok-answer-in-Some-clause-leaves
returns-in_ok-answer-in-Some-clause-leaves g c =
    let (walk, leads, stands, same, stops) = rw c.in-Some.is at c.in_ok-reached.ensures.walks in
    (tells_walk c.args.limit c.args.command c.args.self.now c.walk_watched.new.self c.stop.new.self c.in-Some.reached _ c.in_ok-answer-in-Some.answer walk leads
    stands same stops c.in_ok-answer-in-Some.ensures.shown c.in_ok-answer-in-Some.ensures.tells).1
