-- Where lines are left, text is left.
use Rattle.std.proofs.Common.{◌≡◌, ◌≢◌, ℕ, ◌<◌, false, List, [], ◌∷◌, length, drop, map, ap, arith, ◌∙◌, length-drop}
use Rattle.tb_basic_text.specs.Lines.{lines_from}
use Rattle.tb_basic_names.specs.declared.lines.Line.{Line as SourceLine}

no_lines : (line : List ℕ) (lines : List (List ℕ)) → line ∷ lines ≡ [] → ⊥
no_lines line lines e = cc

some_left : (lines : List SourceLine) (rest : List ℕ) → 0 < length lines → map (λ l. l.text.now) lines ≡ lines_from false rest → rest ≢ []
unfolding lines_from
some_left [] rest some e = absurd (omega (arith, some))
some_left (l ∷ ls) rest some e = λ none. no_lines l.text.now (map (λ x. x.text.now) ls) (e ∙ ap (lines_from false) none)

-- lines from a place on
pub text_left : (lines : List SourceLine) (i : ℕ) (rest : List ℕ) → i < length lines → map (λ l. l.text.now) (drop i lines) ≡ lines_from false rest → rest ≢ []
text_left lines i rest lt e = some_left (drop i lines) rest (omega (arith, lt, length-drop i lines)) e
