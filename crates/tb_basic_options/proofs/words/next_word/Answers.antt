-- The goals of `next_word` in src/words.rt.
use Rattle.std.proofs.Common.{◌+◌, arith, sym, ◌∙◌, length-drop, length-take}
use native.Mathlib.Numerals.{unary_clauses}
use Rattle.tb_basic_options.proofs.FirstWord.{first_word, only_word, rest_of}
use Rattle.tb_basic_options.proofs.words.next_word.Goals as goal

pub returns-then-byte-eq32 : goal.returns-then-byte-eq32
returns-then-byte-eq32 c =
    let text = c.args.text.now in
    let i = c.loop-i.i in
    let word = first_word text i (omega arith) c.loop-i.invariant c.if-byte-eq32.true in
    rw (rest_of text (i + 1)) (
      simp unary_clauses word,
      omega (arith, length-drop (i + 1) text),
      λ some. omega (arith, length-drop (i + 1) text, length-take i text),
    )

pub returns : goal.returns
returns c =
    let word = only_word c.args.text.now c.loop-i.i (sym c.is_empty.ensures ∙ c.if-is_empty.false) (omega arith) c.loop-i.invariant in
    (word.0, word.1, λ never. absurd (omega arith))
