-- The goals of `go_on` in src/talk.rt: no run takes back what was sent.
use Rattle.tb_engines.proofs.Stretched.{run_longer}
use Rattle.tb_engine_test.proofs.talk.go_on.Goals as goal

pub sent_after-requires : goal.sent_after-requires
sent_after-requires g c = rw c.sent-before.ensures (run_longer g.O.Outside.gives _ _ _ _ _ _ c.in_ok-status.ensures.ran)
