-- The goals of `Debugger::newest_stop` in src/searching.rt.
use Rattle.tb_debug.proofs.Stopping.{enough, from_first}
use Rattle.std.proofs.Common.{◌≤◌, arith}
use Rattle.tb_debug.proofs.debugger.Debugger.newest_stop.Goals as goal

pub returns-then-checkpoint-newest : goal.returns-then-checkpoint-newest
returns-then-checkpoint-newest c = λ start none on.
    let d = c.args.self.now in
    let known = c.loop-index.invariant start none on in
    let kept = c.in-Some.ensures.of_run d.starts start d.present.events on.of_first on.of_past in
    enough d start c.in-Some.checkpoint.now c.in_ok-newest.newest kept.0 c.if-checkpoint-newest.true
    (c.in_ok-newest.ensures start none on kept.0 kept.1 known.0 known.1)

pub loop-index-preserved-in-Some : goal.loop-index-preserved-in-Some
loop-index-preserved-in-Some c = λ start none on.
    let d = c.args.self.now in
    let known = c.loop-index.invariant start none on in
    let kept = c.in-Some.ensures.of_run d.starts start d.present.events on.of_first on.of_past in
    (kept.1, c.in_ok-newest.ensures start none on kept.0 kept.1 known.0 known.1)

pub returns : goal.returns
returns c = λ start none on.
    let d = c.args.self.now in
    let known = c.loop-index.invariant start none on in
    let early : d.history.first.moment.events ≤ d.present.events = omega (arith, on.of_first.1) in
    from_first d start d.history.first c.in_ok-found.found none on.of_first (c.in_ok-found.ensures start none on on.of_first.0 early known.0 known.1)
