-- The goals of `walk_on` in src/session.rt.
use Rattle.std.proofs.Common.{refl}
use Rattle.tb_dap_adapter.specs.declared.session.Session.{Session}
use Rattle.tb_dap_adapter.proofs.Walking.{event_ahead, event_stands, walked_on}
use Rattle.tb_dap_adapter.proofs.session.Session.walk_on.Goals as goal

pub returns-then-events : goal.returns-then-events
returns-then-events c =
    let s = c.args.self.now in
    let t : Session = record s { debugger = c.step.new.self } in
    walked_on s t c.args.movement c.args.events c.step.result c.step.ensures.run c.step.ensures.stops c.step.ensures.shown
    (event_ahead s t c.args.movement c.args.events c.step.result c.if-events.true c.step.ensures.steps)
    (event_stands s t c.step.result c.step.ensures.stands) refl
