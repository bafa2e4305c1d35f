-- Where the first piece of a text ends.
use Rattle.std.proofs.Common.{◌≡◌, ◌≢◌, ◌∙◌, ◌==◌, ℕ, zero, suc, Bool, true, false, ◌<◌, List, [], ◌∷◌, ◌++◌, length, get_or, take, drop, refl, sym, ap, arith, ◌-◌, take_all, length-drop, append_assoc}
use Rattle.std.specs.Prelude.{flat_map}
use Rattle.std.proofs.lemmas.Bool.{ne_eqb}
use Rattle.tb_engine_transcripts.specs.Writing.{ended, last_lines, longer, marked, pieces}

-- the first piece ends at a byte 10
pub first_piece : (text : List ℕ) (i : ℕ) → i < length text → ((k : ℕ) → k < i → get_or text k 0 ≢ 10)
    → get_or text i 0 ≡ 10 → pieces text ≡ take i text ∷ pieces (drop (suc i) text)
unfolding pieces
first_piece [] i lt inside e = absurd (omega arith)
first_piece (b ∷ text) zero lt inside e = rw e refl
first_piece (b ∷ text) (suc i) lt inside e =
    let rest = first_piece text i (omega arith) (λ k below. inside (suc k) (omega arith)) e in
    rw (ne_eqb b 10 (inside 0 (omega arith)), rest) refl

-- a text without a byte 10 is one piece
pub only_piece : (text : List ℕ) → ((k : ℕ) → k < length text → get_or text k 0 ≢ 10) → pieces text ≡ text ∷ []
unfolding pieces
only_piece [] inside = refl
only_piece (b ∷ text) inside =
    let rest = only_piece text (λ k below. inside (suc k) (omega arith)) in
    rw (ne_eqb b 10 (inside 0 (omega arith)), rest) refl

-- nothing of the rest is left out if a slice goes to the end
pub rest_of : {A : Type 0} (text : List A) (i : ℕ) → take (length text - i) (drop i text) ≡ drop i text
rest_of text i = take_all (length text - i) (drop i text) (omega (arith, length-drop i text))

-- ---- what was sent last

-- there is a first piece
some_longer : (b : ℕ) (ps : List (List ℕ)) → longer b ps ≢ []
some_longer b [] e = cc
some_longer b (p ∷ ps) e = cc

-- a text has a piece
pub some_piece : (text : List ℕ) → pieces text ≢ []
unfolding pieces
some_piece [] e = cc
some_piece (b ∷ text) e = by (b == 10) refl
  where
    by : (ten : Bool) → (b == 10) ≡ ten → ⊥
    by true t = let never : [] ∷ pieces text ≡ [] = rw t at e in cc
    by false t = some_longer b (pieces text) (rw t at e)

-- a piece before others is a line before theirs
before_others : (piece : List ℕ) (ps : List (List ℕ)) → ps ≢ [] → last_lines (piece ∷ ps) ≡ marked piece ∷ last_lines ps
before_others piece [] some = absurd (some refl)
before_others piece (p ∷ ps) some = refl

-- one more line of what was sent last
pub one_more : (old new goal piece below rest : List ℕ) → pieces rest ≡ piece ∷ pieces below → new ≡ old ++ ended (marked piece)
    → old ++ flat_map ended (last_lines (pieces rest)) ≡ goal → new ++ flat_map ended (last_lines (pieces below)) ≡ goal
one_more old new goal piece below rest cut grown same =
    let lines : last_lines (pieces rest) ≡ marked piece ∷ last_lines (pieces below) = ap last_lines cut ∙ before_others piece (pieces below) (some_piece below) in
    ap (λ t. t ++ flat_map ended (last_lines (pieces below))) grown
    ∙ append_assoc old (ended (marked piece)) (flat_map ended (last_lines (pieces below)))
    ∙ sym (ap (λ l. old ++ flat_map ended l) lines) ∙ same
