-- The goals of `word_end` in src/lexer.rt.
use Rattle.std.proofs.Common.{◌<◌, length, get_or, sym, ◌∙◌, arith}
use Rattle.tb_parser.proofs.Written.{upper_is, word_ends, word_stops, word_later, word_sooner}
use Rattle.tb_parser.proofs.lexer.word_end.Goals as goal

pub returns-in_err-place : goal.returns-in_err-place
returns-in_err-place c =
    let l = c.loop-letter in
    rw c.from_residual.ensures (λ end h. word_ends c.args.line.now l.end c.args.word.now l.letter-index c.loop-letter-test.true c.in_err-place.ensures end (l.invariant.only end h))

pub returns-then-to_ascii_uppercase-letter : goal.returns-then-to_ascii_uppercase-letter
returns-then-to_ascii_uppercase-letter c =
    let l = c.loop-letter in
    λ end h. word_stops c.args.line.now l.end c.args.word.now l.letter-index c.loop-letter-test.true c.in_ok-place.place c.in_ok-place.ensures
    (λ same. c.if-to_ascii_uppercase-letter.true (c.to_ascii_uppercase.ensures.value ∙ upper_is (get_or c.args.line.now c.in_ok-place.place 0) ∙ same)) end (l.invariant.only end h)

pub loop-letter-preserved : goal.loop-letter-preserved
loop-letter-preserved c =
    let l = c.loop-letter in
    let line = c.args.line.now in let word = c.args.word.now in
    let lt : l.letter-index < length word = c.loop-letter-test.true in
    let p = c.in_ok-place.place in
    record {
      within = omega (arith, c.in_ok-place.ensures.within);
      so_far = λ end h. l.invariant.so_far end (word_sooner line l.end word l.letter-index lt p c.in_ok-place.ensures (sym (upper_is (get_or c.args.line.now c.in_ok-place.place 0)) ∙ sym c.to_ascii_uppercase.ensures.value ∙ c.if-to_ascii_uppercase-letter.false) end h);
      only = λ end h. word_later line l.end word l.letter-index lt p c.in_ok-place.ensures end (l.invariant.only end h);
    }
