-- A text has no lines exactly if it is empty.
use Rattle.std.proofs.Common.{◌≡◌, ℕ, Bool, true, false, List, [], ◌∷◌, length, refl, sym, arith, ◌∙◌, ◌==◌}
use Rattle.std.proofs.lemmas.Bool.{ne_eqb}
use Rattle.tb_basic_text.specs.Lines.{lines_from, lines_of_file, longer}
use Rattle.tb_engine_transcripts.specs.Reading.{are_none}

-- there is a first line
some_longer : (b : ℕ) (lines : List (List ℕ)) → are_none (longer b lines) ≡ false
some_longer b [] = refl
some_longer b (line ∷ lines) = refl

-- a text with a byte has a line
some_line : (b : ℕ) (text : List ℕ) → are_none (lines_of_file (b ∷ text)) ≡ false
unfolding lines_from
some_line b text = by (b == 10) (b == 13) refl refl
  where
    by : (ten thirteen : Bool) → (b == 10) ≡ ten → (b == 13) ≡ thirteen → are_none (lines_of_file (b ∷ text)) ≡ false
    by true thirteen e f = rw e refl
    by false true e f = rw (e, f) refl
    by false false e f = rw (e, f) (some_longer b (lines_from false text))

-- no line is left exactly if no byte is
pub none_left : (text : List ℕ) → are_none (lines_of_file text) ≡ (length text == 0)
unfolding lines_from
none_left [] = refl
none_left (b ∷ text) = some_line b text ∙ sym (ne_eqb (length (b ∷ text)) 0 (λ e. absurd (omega (arith, e))))
