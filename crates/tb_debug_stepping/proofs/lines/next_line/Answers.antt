-- The goals of `next_line` in src/lines.rt.
use Rattle.std.proofs.Common.{arith, sym}
use Rattle.std.proofs.lemmas.List.{length-take, length-drop}
use Rattle.tb_debug_stepping.proofs.LineLemmas.{first_line_and_rest, only_line}
use Rattle.tb_debug_stepping.proofs.lines.next_line.Goals as goal

pub returns-then-byte-eq10 : goal.returns-then-byte-eq10
returns-then-byte-eq10 c =
    let text = c.args.text.now in
    let i = c.loop-i.i in (
      first_line_and_rest text i c.loop-i-test.true c.if-byte-eq10.true c.loop-i.invariant,
      simp (length-take, length-drop) (omega arith),
    )

pub returns : goal.returns
returns c = only_line c.args.text.now c.loop-i.i (sym c.if-is_empty.ensures) c.loop-i-test.false c.loop-i.invariant
