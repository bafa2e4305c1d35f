-- A list of words that a loop fills.
use Rattle.std.proofs.Common.{ℕ, ◌≡◌, ◌<◌, ◌+◌, ℤ, pos, List, length, set, get_or, map, ap, ◌∙◌, inl, inr, arith}
use Rattle.std.specs.List.{range_with_len}
use Rattle.std.proofs.lemmas.Bool.{cases_eq}
use Rattle.std.proofs.lemmas.List.{get_or-set_same, get_or-set_other}
use Rattle.std.proofs.lemmas.List.FromFn.{fill_by_all}
use Rattle.std.proofs.Math.ListN.{get_or-map, length-map}
use Rattle.tb_words.specs.Words.{word_of}

-- the words up to an index are those of a function
abbrev pub Filled : (ℕ → ℕ) → List ℤ → ℕ → Type 0
Filled f xs n = (k : ℕ) → k < n → word_of (get_or xs k (pos 0)) ≡ f k

-- one more element is filled
pub filled_more : (f : ℕ → ℕ) (xs : List ℤ) (i : ℕ) (y : ℤ) → i < length xs → word_of y ≡ f i → Filled f xs i → Filled f (set xs i y) (i + 1)
filled_more f xs i y l e h k below =
    elim (cases_eq k i) [
      | inl same ↦ rw same (ap word_of (get_or-set_same xs i y (pos 0) l) ∙ e)
      | inr other ↦ let before : k < i = omega arith in ap word_of (get_or-set_other xs i k y (pos 0) other) ∙ h k before
    ]

-- a list that is filled to its end has the words of the function
pub filled_all : (f : ℕ → ℕ) (xs : List ℤ) (n : ℕ) → length xs ≡ n → Filled f xs n → map word_of xs ≡ map f (range_with_len 0 n)
filled_all f xs n l h = fill_by_all f (map word_of xs) n 0 (length-map xs word_of ∙ l) (λ k b. get_or-map word_of xs k (pos 0) ∙ h k b)
