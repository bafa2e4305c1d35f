-- The goals of `with_words` in src/words.rt.
use Rattle.std.proofs.Common.{◌≡◌, ℕ, List, [], ◌∷◌, ◌<◌, length, refl, arith, ◌∙◌}
use Rattle.tb_basic_options.specs.Words.{with_word, with_words, words_in}
use Rattle.tb_basic_options.specs.declared.words.Reading.{Reading}
use Rattle.tb_basic_options.proofs.words.Reading.+with_words.Goals as goal

-- no word is left
at_end : (r : Reading) (column : ℕ) (text : List ℕ) → text ≡ [] → r ≡ with_words r column (words_in text)
unfolding words_in
at_end r column text none = rw none refl

-- one word is left
at_last : (r : Reading) (column : ℕ) (word rest text : List ℕ) → words_in text ≡ word ∷ words_in rest → length rest < 1
    → with_word r column word ≡ with_words r column (words_in text)
unfolding words_in
at_last r column word [] text is none = rw is refl
at_last r column word (b ∷ rest) text is none = absurd (omega arith)

pub returns-in_default : goal.returns-in_default
returns-in_default t c = at_end c.args.self c.args.column c.args.text.now c.in_default.ensures

pub returns-in-empty : goal.returns-in-empty
returns-in-empty t c =
    c.with_word-read.ensures
    ∙ at_last c.args.self c.args.column c.in-Some.word.now c.in-Some.rest.now c.args.text.now c.in-Some.ensures.0 (omega arith)
