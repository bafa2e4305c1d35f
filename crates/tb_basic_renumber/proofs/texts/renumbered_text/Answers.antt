-- The goal of `renumbered_text` in src/texts.rt.
use Rattle.std.proofs.Common.{arith}
use Rattle.tb_basic_renumber.proofs.Kept.{text_left}
use Rattle.tb_basic_renumber.proofs.texts.renumbered_text.Goals as goal

pub first_end-cut-requires : goal.first_end-cut-requires
first_end-cut-requires c =
    text_left c.args.source.now.lines.items c.loop-i.i c.loop-i.rest.now (grind (arith, c.loop-i-test.true, c.deref-line-items.ensures.value)) c.loop-i.invariant.lines
