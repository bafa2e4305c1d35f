-- The goals of `kept` in src/kept.rt.
use Rattle.std.proofs.Common.{◌≡◌, ◌<◌, ◌∙◌, true, false, length, get_or, sym, arith}
use Rattle.tb_basic_format.specs.Kept.{is_dropped}
use Rattle.tb_basic_format.proofs.Keeping.{taken, passed, ended}
use Rattle.tb_basic_format.proofs.kept.kept.Goals as goal
use Rattle.tb_basic_format.proofs.kept.kept.Goals.{then-not-drops+in_ok-push, else-not-drops}

pub returns : goal.returns
returns c = ended c.args.line.now c.loop-byte.byte-index c.loop-byte.mode c.loop-byte.bytes.items _ (omega arith) c.loop-byte.invariant

pub loop-byte-preserved : goal.loop-byte-preserved
loop-byte-preserved c =
    let l = c.loop-byte in
    let line = c.args.line.now in
    let lt : l.byte-index < length line = omega arith in
    elim c.if-not-drops.branch [
      | then-not-drops+in_ok-push w ↦
          let kept : is_dropped l.mode (get_or line l.byte-index 0) ≡ false = sym c.drops.ensures ∙ w.if-not-drops.true in
          let t = taken line l.byte-index l.mode l.bytes.items lt kept in
          cc (t, w.in_ok-push.ensures.items, w.write.ensures)
      | else-not-drops w ↦
          let dropped : is_dropped l.mode (get_or line l.byte-index 0) ≡ true = sym c.drops.ensures ∙ w.if-not-drops.false in
          let t = passed line l.byte-index l.mode lt dropped in
          cc
    ]
