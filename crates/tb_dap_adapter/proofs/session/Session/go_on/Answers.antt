-- The goals of `go_on` in src/session.rt.
use Rattle.tb_dap_adapter.proofs.session.Session.go_on.Goals as goal

pub returns : goal.returns
returns c = record {
  reached = c.in_ok-reached.reached;
  there = c.walk_on.new.self;
  way = c.in_ok-reached.ensures;
  stops = let stopped = rw c.stop_after-stop.ensures at c.in_ok-settle.ensures in rw c.is_step-self.ensures at stopped;
}
