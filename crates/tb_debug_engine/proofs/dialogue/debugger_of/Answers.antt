-- The goals of `debugger_of` in src/dialogue.rt.
use Rattle.std.proofs.Common.{refl, subst}
use Rattle.tb_opcodes.specs.Bytes.{AreBytes}
use Rattle.tb_prg.specs.Prg.{content_of}
use Rattle.tb_compiled.specs.Compiled.{prg_of}
use Rattle.tb_debug_engine.proofs.Opening.{begun, not_begun}
use Rattle.tb_debug_engine.proofs.dialogue.debugger_of.Goals as goal

pub returns-in-Ok-new : goal.returns-in-Ok-new
returns-in-Ok-new c =
    let program = c.args.source.now.program in
    begun program c.args.keyboard c.args.rom (content_of (prg_of program)) c.in-Ok.machine c.in-Ok-new.debugger refl
    c.in-Ok.ensures.prg c.in-Ok-new.ensures.run.0 c.in-Ok-new.ensures.run.1 c.in-Ok-new.ensures.opens (subst AreBytes c.prg.ensures c.are_bytes.ensures)
    (subst AreBytes c.as_slice.ensures.value c.are_bytes-2.ensures) (subst AreBytes c.as_slice-2.ensures.value c.are_bytes-3.ensures)

pub returns-in-Err : goal.returns-in-Err
returns-in-Err c =
    not_begun c.args.source.now.program c.args.keyboard c.args.rom c.in-Err.stop c.from.result
    c.from.ensures c.in-Err.ensures.prg
