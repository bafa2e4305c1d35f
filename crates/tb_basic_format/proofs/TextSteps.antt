-- The tidy text, line by line.
use Rattle.std.proofs.Common.{◌≡◌, ℕ, ◌+◌, ◌<◌, ◌≤◌, zero, suc, Bool, true, false, ◌&&◌, ◌==◌, List, [], ◌∷◌, ◌++◌, length, get_or, take, drop, sym, ap, subst, ◌∙◌, arith, append_assoc}
use Rattle.std.proofs.lemmas.List.{take-append-drop}
use Rattle.tb_basic_text.specs.declared.notation.Notation.{Notation}
use Rattle.tb_parser.proofs.Steps.{split}
use Rattle.tb_basic_format.specs.Texts.{AreWithin, IsEnd, IsTidyText, IsWithin, Places, last, next, placed}

-- bytes of which none ends a line
pub within_take : (text : List ℕ) (i : ℕ) → i ≤ length text → ((k : ℕ) → k < i → IsWithin (get_or text k 0)) → AreWithin (take i text)
within_take [] zero le inside = tt
within_take [] (suc i) le inside = tt
within_take (b ∷ text) zero le inside = tt
within_take (b ∷ text) (suc i) le inside = (inside 0 (omega arith), within_take text i (omega arith) (λ k lt. inside (suc k) (omega arith)))

-- a whole text of such bytes
pub within_all : (text : List ℕ) (i : ℕ) → length text ≤ i → ((k : ℕ) → k < i → IsWithin (get_or text k 0)) → AreWithin text
within_all [] i le inside = tt
within_all (b ∷ text) zero le inside = absurd (omega arith)
within_all (b ∷ text) (suc i) le inside = (inside 0 (omega arith), within_all text i (omega arith) (λ k lt. inside (suc k) (omega arith)))

-- a text is what it has before a place, the byte there and what follows
pub around : (text : List ℕ) (i : ℕ) → i < length text → text ≡ take i text ++ get_or text i 0 ∷ drop (i + 1) text
around text i lt = sym (take-append-drop i text) ∙ ap (λ (t : List ℕ). take i text ++ t) (split text i 0 lt)

-- what holds of the text so far: with the tidy text of the rest it is that of the source
abbrev pub LeadsOn : Notation → Bool → List ℕ → List ℕ → List ℕ → Type 0
LeadsOn notation behind source rest text = (result : List ℕ) → IsTidyText notation behind rest result → IsTidyText notation false source (text ++ result)

-- one more line with its end
pub pushed : (notation : Notation) (behind bound : Bool) (source rest line after old text new_text : List ℕ) (ending : ℕ) → LeadsOn notation behind source rest old
    → rest ≡ line ++ ending ∷ after → AreWithin line → IsEnd ending → bound ≡ (behind && (ending == 10)) → Places notation bound line old text → new_text ≡ text ++ ending ∷ []
    → LeadsOn notation (ending == 13) source after new_text
pushed notation behind bound source rest line after old text new_text ending whole is within end bound_is places pushed_is = λ result tidy.
    let new = places.0 in
    let step : IsTidyText notation behind (line ++ ending ∷ after) (placed (behind && (ending == 10)) line new ++ ending ∷ result) =
    next behind line new ending after result within end places.1 tidy in
    let all : IsTidyText notation false source (old ++ (placed (behind && (ending == 10)) line new ++ ending ∷ result)) =
    whole (placed (behind && (ending == 10)) line new ++ ending ∷ result)
    (subst (λ (r : List ℕ). IsTidyText notation behind r (placed (behind && (ending == 10)) line new ++ ending ∷ result)) (sym is) step) in
    let text_is : text ≡ old ++ placed (behind && (ending == 10)) line new = rw bound_is at places.2 in
    let joined : new_text ++ result ≡ old ++ (placed (behind && (ending == 10)) line new ++ ending ∷ result) = rw (pushed_is, text_is) (simp append_assoc) in
    subst (λ (r : List ℕ). IsTidyText notation false source r) (sym joined) all

-- the last line, which no byte ends
pub finished : (notation : Notation) (behind : Bool) (source rest old text : List ℕ) → LeadsOn notation behind source rest old → AreWithin rest → Places notation true rest old text
    → IsTidyText notation false source text
finished notation behind source rest old text whole within places =
    subst (λ (r : List ℕ). IsTidyText notation false source r) (sym places.2) (whole (placed true rest places.0) (last behind rest places.0 within places.1))
