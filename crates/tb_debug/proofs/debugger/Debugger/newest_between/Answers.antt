-- The goals of `Debugger::newest_between` in src/searching.rt.
use Rattle.std.proofs.Common.{◌-◌, ◌≤◌, subst, arith}
use Rattle.tb_debug.specs.Begins.{EndsAt}
use Rattle.tb_debug.proofs.Stopping.{all_passed, one_between, past_last}
use Rattle.tb_debug.proofs.debugger.Debugger.newest_between.Goals as goal

pub loop-moment-preserved : goal.loop-moment-preserved
loop-moment-preserved c = λ start none on from few.
    let d = c.args.self.now in
    let p = c.loop-moment.moment in
    let q = c.to_next_start.new.self in
    let left = c.args.last - p.events in
    let known = c.loop-moment.invariant start none on from few in
    let next = c.in_ok-to_next_start.ensures in
    let of_run = next.run.on start known.of_run in
    let inside : q.events ≤ d.present.events = omega (arith, next.within, c.loop-moment-test.true, few) in
    record {
      of_run = of_run;
      known = one_between d start c.args.from.events p q left c.loop-moment.newest c.leads_back-time.result c.later-newest.result on of_run
          (subst (λ r. EndsAt d.starts start left p r q) c.in-Line.is (next.ends start known.of_run)) inside
          c.leads_back-time.ensures c.later-newest.ensures.one c.later-newest.ensures.other c.later-newest.ensures.which known.known;
    }

pub returns-in_default : goal.returns-in_default
returns-in_default c = λ start none on from few.
    let d = c.args.self.now in
    let p = c.loop-moment.moment in
    let q = c.to_next_start.new.self in
    let known = c.loop-moment.invariant start none on from few in
    let next = c.in_ok-to_next_start.ensures in
    let of_run = next.run.on start known.of_run in
    all_passed d start c.args.from.events c.args.last c.loop-moment.newest p q
    (past_last d start p q c.args.last (c.args.last - p.events) c.in_ok-to_next_start.field-0 none on of_run c.in_default.not-Line
    (next.ends start known.of_run) few (omega (arith, c.loop-moment-test.true)) (omega arith)) known.known
