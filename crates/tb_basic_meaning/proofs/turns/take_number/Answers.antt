-- The goals of `take_number` in src/turns.rt.
use Rattle.std.proofs.Common.{get_or, drop, ◌+◌, refl, ◌∙◌, arith}
use Rattle.tb_basic_meaning.specs.Turns.{reading_of}
use Rattle.tb_basic_meaning.proofs.Turning.{keeps, sign_turn, digit_turn, read_turn}
use Rattle.tb_basic_meaning.proofs.turns.take_number.Goals as goal
use Rattle.tb_basic_meaning.proofs.turns.take_number.Goals.{in-32, in-43+in-Nothing, in-48-to-57}

pub loop-index-preserved : goal.loop-index-preserved
loop-index-preserved c =
    let text = c.args.text.now in
    let i = c.loop-index.index in
    let r = reading_of c.loop-index.reading in
    let r' = reading_of c.match-byte.reading in
    elim c.match-byte.branch [
      | in-32 w ↦ keeps r r' text i 32 c.loop-index-test.true w.in-32.is (rw w.reading-is refl) c.loop-index.invariant
      | in-43+in-Nothing w ↦
          keeps r r' text i (get_or text i 0) c.loop-index-test.true refl (rw (w.reading-is, w.in-Nothing.is) (sign_turn (get_or text i 0) (drop (i + 1) text) w.in-43.is)) c.loop-index.invariant
      | in-48-to-57 w ↦
          keeps r r' text i (get_or text i 0) c.loop-index-test.true refl
          (rw w.reading-is (digit_turn r (get_or text i 0) (drop (i + 1) text) (omega arith) (omega arith) ∙ read_turn _ w.with_digit-reading.result
          (drop (i + 1) text) w.with_digit-reading.ensures)) c.loop-index.invariant
    ]
