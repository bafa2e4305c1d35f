-- The goals of `debug` in src/dialogue.rt.
use Rattle.std.proofs.Common.{inr}
use Rattle.tb_debug_engine.proofs.dialogue.debug.Goals as goal

pub returns-in-Ok-debugger_of : goal.returns-in-Ok-debugger_of
returns-in-Ok-debugger_of g c =
    inr (
      c.in-Ok.written,
      c.in-Ok-debugger_of.debugger,
      record { written = c.in-Ok.ensures; begun = c.in-Ok-debugger_of.ensures },
      c.converse.ensures,
    )
