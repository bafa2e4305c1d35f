-- The goals of `debug_prg` in src/dialogue.rt.
use Rattle.std.proofs.Common.{inr}
use Rattle.tb_debug_engine.proofs.dialogue.debug_prg.Goals as goal

pub returns-in-Ok : goal.returns-in-Ok
returns-in-Ok g c = inr (c.none-written.result, c.in-Ok.debugger, c.none-written.ensures, c.in-Ok.ensures, c.converse.ensures)
