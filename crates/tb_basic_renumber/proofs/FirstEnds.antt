-- Where the first line of a text ends.
use Rattle.std.proofs.Common.{◌≡◌, ◌≢◌, ℕ, zero, suc, ◌<◌, false, List, [], ◌∷◌, length, take, drop, refl, arith}
use Rattle.std.proofs.lemmas.Bool.{ne_eqb}
use Rattle.tb_basic_text.specs.Lines.{lines_from}
use Rattle.tb_basic_text.proofs.FirstLine.{IsInside, first_line, last_line}
use Rattle.tb_basic_renumber.specs.Ends.{IsBehind, ends_from}

-- the first line's end is where the text after it begins with one
pub first_end : (text : List ℕ) (i : ℕ) (e : List ℕ) (more : List (List ℕ)) → i < length text → ((k : ℕ) → k < i → IsInside text k)
    → ends_from false (drop i text) ≡ e ∷ more → ends_from false text ≡ e ∷ more
unfolding ends_from
first_end [] i e more lt inside is = absurd (omega arith)
first_end (b ∷ text) zero e more lt inside is = is
first_end (b ∷ text) (suc i) e more lt inside is =
    let h = inside 0 (omega arith) in
    let rest = first_end text i e more (omega arith) (λ k below. inside (suc k) (omega arith)) is in
    rw (ne_eqb b 10 h.0, ne_eqb b 13 h.1, rest) refl

-- a text without a line's end has an empty one
pub last_end : (text : List ℕ) → text ≢ [] → ((k : ℕ) → k < length text → IsInside text k) → ends_from false text ≡ [] ∷ ends_from false []
unfolding ends_from
last_end [] ne inside = absurd (ne refl)
last_end (b ∷ []) ne inside = let h = inside 0 (omega arith) in rw (ne_eqb b 10 h.0, ne_eqb b 13 h.1) refl
last_end (b ∷ c ∷ text) ne inside =
    let h = inside 0 (omega arith) in
    let rest = last_end (c ∷ text) (λ e. cc) (λ k below. inside (suc k) (omega arith)) in
    rw (ne_eqb b 10 h.0, ne_eqb b 13 h.1, rest) refl

-- behind a line that ends within a text
pub behind_first : (text behind : List ℕ) (i : ℕ) → i < length text → ((k : ℕ) → k < i → IsInside text k)
    → lines_from false (drop i text) ≡ [] ∷ lines_from false behind → IsBehind text behind
behind_first text behind i lt inside is = (take i text, first_line text i (lines_from false behind) lt inside is)

-- behind the last line
pub behind_last : (text : List ℕ) → text ≢ [] → ((k : ℕ) → k < length text → IsInside text k) → IsBehind text []
unfolding lines_from
behind_last text ne inside = (text, last_line text ne inside)
