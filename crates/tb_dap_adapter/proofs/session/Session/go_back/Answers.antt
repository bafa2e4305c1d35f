-- The goals of `go_back` in src/session.rt.
use Rattle.tb_dap_adapter.proofs.session.Session.go_back.Goals as goal

pub returns : goal.returns
returns c = record {
  reached = c.in_ok-walk_back.field-0;
  there = c.walk_back.new.self;
  way = rw c.is_step-is_single.ensures at c.in_ok-walk_back.ensures;
  stops =
      let stopped = rw c.stop_behind-stop.ensures at c.in_ok-settle.ensures in
      rw (c.cause.ensures.cause, c.begun-begun.ensures, c.is_step-is_single.ensures, c.begun-before.ensures) at stopped;
}
