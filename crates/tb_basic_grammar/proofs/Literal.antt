-- The value of a literal, counted up to 65,536.
use Rattle.std.proofs.Common.{◌≡◌, ℕ, ◌<◌, ◌≤◌, false, List, [], ◌∷◌, length, Option, Some, None, refl, sym, ◌∙◌, nat_le, if◌then◌else◌, arith}
use Rattle.std.proofs.lemmas.Bool.Decides.{nat_tests}
use Rattle.tb_basic_syntax.specs.Source.{Number}
use Rattle.tb_basic_grammar.specs.Grammar.{word_of, large_at}
use Rattle.tb_basic_grammar.specs.Reading.{Found, starts_digit, digits_at, literal_at}

abbrev pub capped : ℕ → ℕ
capped n = if nat_le n 65535 then n else 65536

-- without a digit at the front the number before it is the value
pub no_digit : (n : ℕ) (text : List ℕ) → starts_digit text ≡ false → digits_at n text ≡ (n, text)
no_digit n [] e = refl
no_digit n (b ∷ text) e = rw e refl

-- the word and the place that the code has counted are those of `literal_at`
pub is_literal : (text rest : List ℕ) (n word : ℕ) (large : Option ℕ) → digits_at n rest ≡ digits_at 0 text → starts_digit rest ≡ false
    → word ≡ word_of n → large ≡ large_at n (length text)
    → (let f : Found = record { tree = Number word; large = large; rest = rest } in f) ≡ literal_at text
unfolding literal_at
is_literal text rest n word large same none w l =
    let e : (n, rest) ≡ digits_at 0 text = sym (no_digit n rest none) ∙ same in
    rw (w, l, ← e) refl

-- a capped value below 65,536 is the word of the literal
pub word_small : (n value word : ℕ) → value ≡ capped n → word ≡ value → value < 65536 → word ≡ word_of n
word_small n value word h e lt = grind (arith, nat_tests)

-- a literal whose capped value is below 65,536 is not large
pub none_large : (n value left : ℕ) → value ≡ capped n → value < 65536 → None ≡ large_at n left
none_large n value left h lt = grind (arith, nat_tests)

-- a literal whose capped value is 65,536 has the largest word
pub word_big : (n value : ℕ) → value ≡ capped n → 65536 ≤ value → 65535 ≡ word_of n
word_big n value h le = grind (arith, nat_tests)

-- a literal whose capped value is 65,536 is large, at its own place
pub some_large : (n value left : ℕ) → value ≡ capped n → 65536 ≤ value → Some left ≡ large_at n left
some_large n value left h le = grind (arith, nat_tests)
