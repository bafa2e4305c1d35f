-- The goals of `first_line` in src/lines.rt.
use Rattle.std.proofs.Common.{sym, ap, ◌∙◌, arith}
use Rattle.tb_asm.specs.Text.{begins_with_10}
use Rattle.tb_asm.proofs.ReadLines.{first_init, pair_ends, line_on, not_return, not_newline}
use Rattle.tb_assembly_reasons.proofs.lines.first_line.Goals as goal
use Rattle.tb_assembly_reasons.proofs.lines.first_line.Goals.{else-byte-eq13-via-then-byte-eq13+else-begins_with_newline, else-byte-eq13-via-else-byte-eq13}

pub loop-index-init : goal.loop-index-init
loop-index-init c = first_init c.args.text.now

pub returns-then-begins_with_newline : goal.returns-then-begins_with_newline
returns-then-begins_with_newline c =
    let p = pair_ends c.args.text.now c.loop-index.index c.loop-index-test.true c.loop-index.invariant c.if-byte-eq13.true
    (sym (ap begins_with_10 c.behind.ensures) ∙ sym c.begins_with_newline.ensures ∙ c.if-begins_with_newline.true) in
    (p.0, omega arith, (omega arith, p.1))

pub loop-index-preserved : goal.loop-index-preserved
loop-index-preserved c =
    line_on c.args.text.now c.loop-index.index c.loop-index-test.true c.loop-index.invariant c.if-byte-eq10.false
    (elim c.else-byte-eq13.branch [
      | else-byte-eq13-via-then-byte-eq13+else-begins_with_newline w ↦ not_newline _ _ (sym (ap begins_with_10 w.behind.ensures)
          ∙ sym w.begins_with_newline.ensures ∙ w.if-begins_with_newline.false)
      | else-byte-eq13-via-else-byte-eq13 w ↦ not_return _ _ w.if-byte-eq13.false
    ])
