-- Where the first command of a text ends, and what is left after it.
use Rattle.std.proofs.Common.{◌≡◌, ◌≢◌, ℕ, zero, suc, ◌+◌, ◌-◌, ◌<◌, ◌≤◌, false, List, [], ◌∷◌, length, get_or, take, drop, refl, arith, ◌==◌, add-one}
use Rattle.std.proofs.lemmas.List.{take_all, length-drop}
use Rattle.std.proofs.lemmas.Bool.{ne_eqb}
use Rattle.tb_debug_stepping.specs.Lines.{lines_of}

-- the first line ends at the first byte 10
pub first_line : (text : List ℕ) (i : ℕ) → i < length text → get_or text i 0 ≡ 10 → ((k : ℕ) → k < i → get_or text k 0 ≢ 10)
    → lines_of text ≡ take i text ∷ lines_of (drop (suc i) text)
unfolding lines_of
first_line [] i lt e inside = absurd (omega arith)
first_line (b ∷ text) zero lt e inside = rw e refl
first_line (b ∷ text) (suc i) lt e inside =
    let h : b ≢ 10 = inside 0 (omega arith) in
    let rest = first_line text i (omega arith) e (λ k below. inside (suc k) (omega arith)) in
    rw (ne_eqb b 10 h, rest) refl

-- the first line ends at the first byte 10, and what is left is as the code has it
pub first_line_and_rest : (text : List ℕ) (i : ℕ) → i < length text → get_or text i 0 ≡ 10 → ((k : ℕ) → k < i → get_or text k 0 ≢ 10)
    → lines_of text ≡ take i text ∷ lines_of (take (length text - (i + 1)) (drop (i + 1) text))
first_line_and_rest text i lt e inside =
    let whole : take (length text - (i + 1)) (drop (i + 1) text) ≡ drop (i + 1) text = take_all (length text - (i + 1)) (drop (i + 1) text) (omega (arith, length-drop (i + 1) text)) in
    rw whole (rw add-one (first_line text i lt e inside))

-- a text without a byte 10 is one line
pub last_line : (text : List ℕ) → text ≢ [] → ((k : ℕ) → k < length text → get_or text k 0 ≢ 10) → lines_of text ≡ text ∷ lines_of []
unfolding lines_of
last_line [] ne inside = absurd (ne refl)
last_line (b ∷ []) ne inside = let h : b ≢ 10 = inside 0 (omega arith) in rw (ne_eqb b 10 h) refl
last_line (b ∷ c ∷ text) ne inside =
    let h : b ≢ 10 = inside 0 (omega arith) in
    let rest = last_line (c ∷ text) (λ e. cc) (λ k below. inside (suc k) (omega arith)) in
    rw (ne_eqb b 10 h, rest) refl

-- a text without a byte 10 is one line, by what the code knows of it: its length isn't 0, and i isn't below that
pub only_line : (text : List ℕ) (i : ℕ) → (length text == 0) ≡ false → length text ≤ i → ((k : ℕ) → k < i → get_or text k 0 ≢ 10)
    → (lines_of text ≡ text ∷ lines_of []) × (0 < length text)
unfolding lines_of
only_line [] i e le inside = absurd cc
only_line (b ∷ text) i e le inside = (last_line (b ∷ text) (λ h. cc) (λ k below. inside k (omega arith)), omega arith)

-- an empty text has no line
pub no_lines : (text : List ℕ) → text ≡ [] → lines_of text ≡ []
unfolding lines_of
no_lines text e = rw e refl
