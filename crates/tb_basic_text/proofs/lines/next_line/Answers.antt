-- The goals of `next_line` in src/lines.rt.
use Rattle.std.proofs.Common.{arith, sym, ◌∙◌, length-drop}
use Rattle.tb_basic_text.proofs.FirstLine.{first_line, only_line, rest_of}
use Rattle.tb_basic_text.proofs.lines.next_line.Goals as goal

pub returns-then-matches : goal.returns-then-matches
returns-then-matches c =
    let text = c.args.text.now in
    let lines = rw (rest_of text c.loop-i.i) at c.behind_end.ensures.lines in
    let shorter = rw (rest_of text c.loop-i.i) at c.behind_end.ensures.shorter in
    (first_line text c.loop-i.i _ (omega arith) c.loop-i.invariant lines, omega (arith, shorter, length-drop c.loop-i.i text))

pub returns : goal.returns
returns c = only_line c.args.text.now c.loop-i.i (sym c.is_empty.ensures ∙ c.if-is_empty.false) (omega arith) c.loop-i.invariant
