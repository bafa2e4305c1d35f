-- The goals of `split_line` in src/texts.rt.
use Rattle.std.proofs.Common.{◌+◌, arith, below_more}
use Rattle.tb_basic_text.proofs.FirstLine.{rest_of}
use Rattle.tb_basic_format.proofs.TextSteps.{around, within_all, within_take}
use Rattle.tb_basic_format.proofs.texts.split_line.Goals as goal

pub loop-i-preserved : goal.loop-i-preserved
loop-i-preserved c = below_more _ _ c.loop-i.invariant (rw c.if-ends_line.false at c.ends_line.ensures)

pub returns-then-ends_line : goal.returns-then-ends_line
returns-then-ends_line c =
    let text = c.args.text.now in (
      rw (rest_of text (c.loop-i.i + 1)) (around text c.loop-i.i (omega arith)),
      within_take text c.loop-i.i (omega arith) c.loop-i.invariant,
      rw c.if-ends_line.true at c.ends_line.ensures,
    )

pub returns : goal.returns
returns c = within_all c.args.text.now c.loop-i.i (omega arith) c.loop-i.invariant
