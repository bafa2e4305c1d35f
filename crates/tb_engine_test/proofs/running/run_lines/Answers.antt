-- The goal of `run_lines` in src/running.rt.
use Rattle.std.proofs.Common.{◌∙◌, ap, map, subst}
use Rattle.tb_engine_test.specs.Running.{run_end}
use Rattle.tb_engine_test.specs.Talks.{TalksFrom}
use Rattle.tb_engine_test.proofs.running.run_lines.Goals as goal

pub returns : goal.returns
returns g c =
    let talk = c.in_ok-talk.talk in
    record {
      outside = c.talk_to.new.outside;
      machine = c.talk_to.new.machine;
      status = talk.status;
      talked = subst (λ m. TalksFrom g.O.Outside.gives c.args.outside.now m c.args.manner.now (map (λ l. l.items) c.args.lines.now) talk.turns.items talk.rows.items talk.last.items talk.status c.talk_to.new.outside c.talk_to.new.machine) c.in_ok-machine.ensures c.in_ok-talk.ensures;
      end = c.run_end-end.ensures ∙ ap (run_end talk.status) c.end_note.ensures.told;
    }
