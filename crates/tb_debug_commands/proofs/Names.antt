-- Bytes that spell no letter.
use Rattle.std.proofs.Common.{◌≡◌, ℕ, ◌+◌, ◌-◌, ◌<◌, ◌≤◌, Bool, true, false, ◌&&◌, List, [], ◌∷◌, length, get_or, inl, inr, arith, refl, sym, Some, None}
use Rattle.std.specs.Prelude.{nat_le, Option, MatchOption}
use Rattle.std.proofs.lemmas.Bool.{and_parts}
use Rattle.std.proofs.lemmas.Bool.Decides.{nat_tests}
use Rattle.tb_words.specs.Letters.{Spells, letter_index}
use Rattle.tb_words.specs.declared.Letter.{Letter}
use Rattle.tb_debug_commands.specs.Parts.{index_named, index_of, variable_in}

-- a test that can't hold
fails : (t : Bool) → ((t ≡ true) → ⊥) → t ≡ false
fails true h = absurd (h refl)
fails false h = refl

-- the bytes between two ends, each of which is a letter
between : (low high b : ℕ) → (nat_le low b && nat_le b high) ≡ true → (low ≤ b) × (b ≤ high)
between low high b e =
    let p = and_parts (nat_le low b) (nat_le b high) e in
    let over : low ≤ b = grind (arith, nat_tests, p.0) in
    let under : b ≤ high = grind (arith, nat_tests, p.1) in
    (over, under)

module _ (b : ℕ) (none : (n : ℕ) → n < 26 → ¬ (Spells b n)) where
  no_capital : (nat_le 65 b && nat_le b 90) ≡ false
  no_capital =
      fails _ (λ e. let p = between 65 90 b e in let same : b ≡ 65 + (b - 65) = omega (arith, p.0) in none (b - 65) (omega (arith, p.0, p.1)) (inl same))

  no_small : (nat_le 97 b && nat_le b 122) ≡ false
  no_small =
      fails _ (λ e. let p = between 97 122 b e in let same : b ≡ 97 + (b - 97) = omega (arith, p.0) in none (b - 97) (omega (arith, p.0, p.1)) (inr same))

-- a text of one byte that spells no letter names no variable
pub no_name : (text : List ℕ) → 1 ≤ length text → length text < 2 → ((n : ℕ) → n < 26 → ¬ (Spells (get_or text 0 0) n)) → None ≡ variable_in text
no_name [] some short none = absurd (omega arith)
no_name (b ∷ []) some short none = rw (no_capital b none, no_small b none) refl
no_name (b ∷ c ∷ text) some short none = absurd (omega arith)

capital_at : (b n : ℕ) → n < 26 → b ≡ 65 + n → index_named b ≡ Some n
capital_at b n few e = grind (arith, nat_tests)

small_at : (b n : ℕ) → n < 26 → b ≡ 97 + n → index_named b ≡ Some n
small_at b n few e = grind (arith, nat_tests)

-- what a byte that is read names
pub named_by : (text : List ℕ) (o : Option Letter) → 1 ≤ length text → length text < 2
    → MatchOption o ((n : ℕ) → n < 26 → ¬ (Spells (get_or text 0 0) n)) (λ letter. Spells (get_or text 0 0) (letter_index letter)) → index_of o ≡ variable_in text
named_by [] o some short h = absurd (omega arith)
named_by (b ∷ c ∷ text) o some short h = absurd (omega arith)
named_by (b ∷ []) None some short h = no_name (b ∷ []) some short h
named_by (b ∷ []) (Some letter) some short (inl e) = sym (capital_at b (letter_index letter) letter.in_alphabet e)
named_by (b ∷ []) (Some letter) some short (inr e) = sym (small_at b (letter_index letter) letter.in_alphabet e)
