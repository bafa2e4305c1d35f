-- Where the first word of a text ends.
use Rattle.std.proofs.Common.{◌≡◌, ◌≢◌, ℕ, zero, suc, ◌<◌, ◌≤◌, false, List, [], ◌∷◌, length, get_or, take, drop, refl, arith, ◌==◌, ◌-◌, take_all, length-drop}
use Rattle.std.proofs.lemmas.Bool.{ne_eqb}
use Rattle.tb_basic_options.specs.Words.{words_in}

-- the first word ends at a space
pub first_word : (text : List ℕ) (i : ℕ) → i < length text → ((k : ℕ) → k < i → get_or text k 0 ≢ 32)
    → get_or text i 0 ≡ 32 → words_in text ≡ take i text ∷ words_in (drop (suc i) text)
unfolding words_in
first_word [] i lt inside e = absurd (omega arith)
first_word (b ∷ text) zero lt inside e = rw e refl
first_word (b ∷ text) (suc i) lt inside e =
    let rest = first_word text i (omega arith) (λ k below. inside (suc k) (omega arith)) e in
    rw (ne_eqb b 32 (inside 0 (omega arith)), rest) refl

-- a text without a space is one word
pub last_word : (text : List ℕ) → text ≢ [] → ((k : ℕ) → k < length text → get_or text k 0 ≢ 32) → words_in text ≡ text ∷ []
unfolding words_in
last_word [] ne inside = absurd (ne refl)
last_word (b ∷ []) ne inside = rw (ne_eqb b 32 (inside 0 (omega arith))) refl
last_word (b ∷ c ∷ text) ne inside =
    let rest = last_word (c ∷ text) (λ e. cc) (λ k below. inside (suc k) (omega arith)) in
    rw (ne_eqb b 32 (inside 0 (omega arith)), rest) refl

-- a text that the loop has walked through to its end is one word
pub only_word : (text : List ℕ) (i : ℕ) → (length text == 0) ≡ false → length text ≤ i → ((k : ℕ) → k < i → get_or text k 0 ≢ 32)
    → (words_in text ≡ text ∷ words_in []) × (0 < length text)
unfolding words_in
only_word [] i e le inside = absurd cc
only_word (b ∷ text) i e le inside = (last_word (b ∷ text) (λ h. cc) (λ k below. inside k (omega arith)), omega arith)

-- nothing of the rest is left out if a slice goes to the end
pub rest_of : {A : Type 0} (text : List A) (i : ℕ) → take (length text - i) (drop i text) ≡ drop i text
rest_of text i = take_all (length text - i) (drop i text) (omega (arith, length-drop i text))
