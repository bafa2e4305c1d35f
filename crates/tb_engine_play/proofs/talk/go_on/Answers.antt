-- The goals of `go_on` in src/talk.rt.
use Rattle.std.proofs.Common.{subst}
use Rattle.tb_engine_streams.specs.HostForm.{host_form_of}
use Rattle.tb_engine_streams.specs.Uses.{use_of}
use Rattle.tb_kernal.specs.Sending.{with_earlier}
use Rattle.tb_engines.specs.Writing.{IsWritten, sent_since}
use Rattle.tb_engine_play.proofs.talk.go_on.Goals as goal

pub returns-else-run : goal.returns-else-run
returns-else-run g c =
    let run = c.in_ok-run.ensures.ran in
    let wrote =
    subst (λ b. IsWritten b (use_of g.W.Write.contents c.args.writer.now c.run_writing.new.writer)
    (host_form_of (sent_since c.args.machine.now (with_earlier run.earlier c.run_writing.new.machine)))) c.if-run.false run.wrote in
    (run.earlier, run.known, (c.in_ok-run.run'.status, (_, run.ran.ran), wrote.0, wrote.1))
