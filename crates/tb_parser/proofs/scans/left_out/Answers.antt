-- The goals of `left_out` in src/scans.rt.
use Rattle.std.proofs.Common.{◌≡◌, ◌<◌, ◌∙◌, refl, arith, sym, get_or, length, false, ◌&&◌, drop}
use Rattle.tb_parser.specs.declared.squeeze.Placed.{Placed}
use Rattle.tb_parser.specs.Scans.{is_left_out}
use Rattle.tb_basic_text.proofs.FirstLine.{rest_of}
use Rattle.tb_parser.proofs.Steps.{left_out_later, left_out_here, left_out_nowhere}
use Rattle.tb_parser.proofs.scans.left_out.Goals as goal
use Rattle.tb_parser.proofs.scans.left_out.Goals.{else-first-via-then-first+else-begins_left_out, else-first-via-else-first}

abbrev none : Placed
none = record { byte = 0; column = 0; in_code = false }

pub returns-then-begins_left_out : goal.returns-then-begins_left_out
returns-then-begins_left_out c =
    let word = rw (rest_of c.args.placed.now c.loop-i.i) at c.begins_left_out.ensures in
    sym (left_out_here c.args.placed.now c.loop-i.i none (omega arith) c.if-first.true (sym word ∙ c.if-begins_left_out.true)) ∙ c.loop-i.invariant

pub loop-i-preserved : goal.loop-i-preserved
loop-i-preserved c =
    let placed = c.args.placed.now in
    let i = c.loop-i.i in
    let lt : i < length placed = omega arith in
    elim c.else-first.branch [
      | else-first-via-then-first+else-begins_left_out w ↦
          let word = rw (rest_of placed i) at w.begins_left_out.ensures in
          let other : ((get_or placed i none).in_code && is_left_out (drop i placed)) ≡ false = rw (w.if-first.true) (sym word ∙ w.if-begins_left_out.false) in
          left_out_later placed i none lt other ∙ c.loop-i.invariant
      | else-first-via-else-first w ↦
          let other : ((get_or placed i none).in_code && is_left_out (drop i placed)) ≡ false = rw (w.if-first.false) refl in
          left_out_later placed i none lt other ∙ c.loop-i.invariant
    ]

pub returns : goal.returns
returns c = sym (left_out_nowhere c.args.placed.now c.loop-i.i (omega arith)) ∙ c.loop-i.invariant
