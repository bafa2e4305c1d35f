-- The goals of `debug` in src/dialogue.rt.
use Rattle.std.proofs.Common.{inl, inr, refl}
use Rattle.tb_dap_adapter.proofs.dialogue.debug.Goals as goal

pub returns-in-Err : goal.returns-in-Err
returns-in-Err g c =
    inl (c.in-Ok.session, rw c.deref.ensures at c.in-Ok.ensures, inr (c.open.new.next, c.in-Err.ensures, refl, refl))

pub returns : goal.returns
returns g c =
    inl (
      c.in-Ok.session,
      rw c.deref.ensures at c.in-Ok.ensures,
      inl (
        c.open.new.next,
        g.W.Write.contents c.open.new.writer.stream,
        c.open.new.writer.failures,
        c.in_default-open.ensures,
        (c.converse.new.talker, c.converse.ensures),
      ),
    )
