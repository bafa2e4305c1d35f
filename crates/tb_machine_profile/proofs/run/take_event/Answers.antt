-- The goals of `take_event` in src/run.rt.
use Rattle.tb_kernal.proofs.Giving.{same_state}
use Rattle.tb_machine_profile.proofs.run.take_event.Goals as goal

pub returns : goal.returns
returns g c =
    record {
      event = c.next-event.result;
      ready = c.reserve.new.self;
      same = same_state c.args.machine.now c.reserve.new.self c.reserve.ensures.rest;
      given = c.next-event.ensures;
      happened = c.in-Ok.ensures.1;
      counted = c.count_event.ensures;
    }
