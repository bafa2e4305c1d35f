-- The goals of `debugger_of_prg` in src/dialogue.rt.
use Rattle.std.proofs.Common.{refl}
use Rattle.tb_prg.specs.Prg.{content_of}
use Rattle.tb_debug_engine.proofs.Opening.{begun_prg, not_begun_prg}
use Rattle.tb_debug_engine.proofs.dialogue.debugger_of_prg.Goals as goal

pub returns-in-Ok-of_prg : goal.returns-in-Ok-of_prg
returns-in-Ok-of_prg c =
    begun_prg c.args.prg.now c.args.keyboard c.args.rom (content_of c.args.prg.now) c.in-Ok.machine c.in-Ok-of_prg.debugger refl
    c.in-Ok.ensures c.in-Ok-of_prg.ensures.run.0 c.in-Ok-of_prg.ensures.run.1 c.in-Ok-of_prg.ensures.start

pub returns-in-Err : goal.returns-in-Err
returns-in-Err c =
    not_begun_prg c.args.prg.now c.args.keyboard c.args.rom c.in-Err.stop c.from.result c.from.ensures c.in-Err.ensures
