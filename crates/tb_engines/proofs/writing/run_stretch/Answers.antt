-- The goals of `run_stretch` in src/writing.rt.
use Rattle.std.proofs.Common.{rules}
use Rattle.tb_engines.proofs.Stretched.{has_room, run_longer}
use Rattle.tb_engines.proofs.writing.run_stretch.Goals as goal

pub unreachable-requires : goal.unreachable-requires
unreachable-requires g c = has_room g.O.Outside.gives _ _ _ _ _ _ (rw c.in-Err.is at c.run.ensures.ran) c.run.ensures.room c.requires.room

pub sent_after-requires : goal.sent_after-requires
sent_after-requires g c =
    rw c.sent-before.ensures (run_longer g.O.Outside.gives _ _ _ _ _ _ c.run.ensures.ran)
