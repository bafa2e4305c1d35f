-- The goals of `take_event` in src/events.rt.
use Rattle.std.proofs.Common.{ap, ◌∙◌}
use Rattle.tb_kernal.specs.Machine.{happens}
use Rattle.tb_kernal.proofs.Giving.{same_state}
use Rattle.tb_debug.proofs.events.take_event.Goals as goal

pub returns : goal.returns
returns g c =
    let same = same_state c.args.machine.now c.reserve.new.self c.reserve.ensures.rest in
    record {
      event = c.next-event.result;
      ready = c.reserve.new.self;
      same = same;
      given = c.next-event.ensures;
      happened = c.in-Ok.ensures.1 ∙ ap (λ s. happens s c.next-event.result) same;
      is_own = c.is_own-own.ensures;
    }
