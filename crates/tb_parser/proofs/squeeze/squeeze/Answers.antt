-- The goals of `squeeze` in src/squeeze.rt.
use Rattle.std.proofs.Common.{arith, ◌≡◌, ◌+◌, ◌<◌, ◌∙◌, true, false, length, get_or, sym, ap, vec_len, vec_capacity}
use Rattle.tb_parser.specs.Squeezed.{is_dropped}
use Rattle.tb_parser.proofs.Steps.{squeezed_kept, squeezed_dropped, squeezed_ends}
use Rattle.tb_parser.proofs.squeeze.squeeze.Goals as goal
use Rattle.tb_parser.proofs.squeeze.squeeze.Goals.{then-not-drops, else-not-drops}

pub returns : goal.returns
returns c =
    let l = c.loop-i in squeezed_ends c.args.line.now l.i l.mode (l.i + 1) l.placed.items _ (omega arith) l.invariant.walked

pub loop-i-preserved : goal.loop-i-preserved
loop-i-preserved c =
    let l = c.loop-i in
    let line = c.args.line.now in
    let lt : l.i < length line = omega arith in
    elim c.if-not-drops.branch [
      | then-not-drops w ↦
          let kept : is_dropped l.mode (get_or line l.i 0) ≡ false = sym c.drops.ensures ∙ w.if-not-drops.true in
          let t = squeezed_kept line l.i l.mode (l.i + 1) l.placed.items lt kept in
          let is : c.if-not-drops.placed ≡ w.push_reserved.new.self = w.placed-is in
          record {
            walked = cc (t, w.push_reserved.ensures.items, w.show.ensures, w.is_in_code.ensures);
            few = omega (arith, l.invariant.few, w.push_reserved.ensures.len, ap vec_len is);
            room = omega (arith, w.push_reserved.ensures.capacity, l.invariant.room, ap vec_capacity is);
          }
      | else-not-drops w ↦
          let dropped : is_dropped l.mode (get_or line l.i 0) ≡ true = sym c.drops.ensures ∙ w.if-not-drops.false in
          let t = squeezed_dropped line l.i l.mode (l.i + 1) lt dropped in
          let is : c.if-not-drops.placed ≡ l.placed = w.placed-is in
          record {
            walked = cc (t, is);
            few = omega (arith, l.invariant.few, ap vec_len is);
            room = omega (arith, l.invariant.room, ap vec_capacity is);
          }
    ]
