-- The goals of `converse` in src/dialogue.rt.
use Rattle.std.proofs.Common.{inl, inr, refl}
use Rattle.tb_debug_engine.specs.Streams.{stream_of}
use Rattle.tb_debug_engine.proofs.dialogue.converse.Goals as goal

pub returns-in-Ok : goal.returns-in-Ok
returns-in-Ok g c =
    let (told, first, written) = c.in-Ok.ensures in
    inr (c.open.new.debugger, told, stream_of g.W.Write.contents c.open.new.writer, first, written, c.answer_lines.ensures)

pub returns : goal.returns
returns g c = inl (c.open.new.debugger, c.in-Err.ensures, refl)
