-- Where the first line of a source ends, at either kind of line's end.
use Rattle.std.proofs.Common.{◌≡◌, ◌≢◌, ℕ, zero, suc, ◌<◌, ◌≤◌, false, List, [], ◌∷◌, length, get_or, take, drop, refl, arith, ◌==◌, ◌-◌, take_all, length-drop}
use Rattle.std.proofs.lemmas.Bool.{ne_eqb}
use Rattle.tb_basic_text.specs.Lines.{lines_from}

-- no line ends at a place
abbrev pub IsInside : List ℕ → ℕ → Type 0
IsInside text k = (get_or text k 0 ≢ 10) × (get_or text k 0 ≢ 13)

-- the first line ends where the text after it begins with a line's end
pub first_line : (text : List ℕ) (i : ℕ) (more : List (List ℕ)) → i < length text → ((k : ℕ) → k < i → IsInside text k)
    → lines_from false (drop i text) ≡ [] ∷ more → lines_from false text ≡ take i text ∷ more
unfolding lines_from
first_line [] i more lt inside e = absurd (omega arith)
first_line (b ∷ text) zero more lt inside e = e
first_line (b ∷ text) (suc i) more lt inside e =
    let h = inside 0 (omega arith) in
    let rest = first_line text i more (omega arith) (λ k below. inside (suc k) (omega arith)) e in
    rw (ne_eqb b 10 h.0, ne_eqb b 13 h.1, rest) refl

-- a text without a line's end is one line
pub last_line : (text : List ℕ) → text ≢ [] → ((k : ℕ) → k < length text → IsInside text k) → lines_from false text ≡ text ∷ []
unfolding lines_from
last_line [] ne inside = absurd (ne refl)
last_line (b ∷ []) ne inside = let h = inside 0 (omega arith) in rw (ne_eqb b 10 h.0, ne_eqb b 13 h.1) refl
last_line (b ∷ c ∷ text) ne inside =
    let h = inside 0 (omega arith) in
    let rest = last_line (c ∷ text) (λ e. cc) (λ k below. inside (suc k) (omega arith)) in
    rw (ne_eqb b 10 h.0, ne_eqb b 13 h.1, rest) refl

-- a text that the loop has walked through to its end is one line
pub only_line : (text : List ℕ) (i : ℕ) → (length text == 0) ≡ false → length text ≤ i → ((k : ℕ) → k < i → IsInside text k)
    → (lines_from false text ≡ text ∷ lines_from false []) × (0 < length text)
unfolding lines_from
only_line [] i e le inside = absurd cc
only_line (b ∷ text) i e le inside = (last_line (b ∷ text) (λ h. cc) (λ k below. inside k (omega arith)), omega arith)

-- nothing of the rest is left out if a slice goes to the end
pub rest_of : {A : Type 0} (line : List A) (i : ℕ) → take (length line - i) (drop i line) ≡ drop i line
rest_of line i = take_all (length line - i) (drop i line) (omega (arith, length-drop i line))
