-- The goals of `edits_between` in src/edits.rt.
use Rattle.std.proofs.Common.{◌≡◌, ℕ, List, [], ◌∷◌, ◌++◌, ap, refl, sym, ◌∙◌, append-nil, false}
use Rattle.serde_json.specs.Data.{Data}
use Rattle.tb_basic_text.specs.Lines.{lines_from}
use Rattle.tb_lsp_edits.specs.Edits.{line_edits}
use Rattle.tb_lsp_edits.proofs.edits.edits_between.Goals as goal

none_left : (n : ℕ) (lines : List (List ℕ)) → line_edits n lines [] ≡ []
none_left n [] = refl
none_left n (line ∷ lines) = refl

-- no line of the source is left
at_end : (found all : List Data) (n : ℕ) (rest news : List ℕ) → rest ≡ [] → found ++ line_edits n (lines_from false rest) (lines_from false news) ≡ all → found ≡ all
unfolding lines_from
at_end found all n rest news none is = sym (append-nil found) ∙ (ap (λ r. found ++ line_edits n (lines_from false r) (lines_from false news)) (sym none) ∙ is)

-- no line of the tidy text is left
cut_off : (found all : List Data) (n : ℕ) (rest news : List ℕ) → news ≡ [] → found ++ line_edits n (lines_from false rest) (lines_from false news) ≡ all → found ≡ all
unfolding lines_from
cut_off found all n rest news none is =
    sym (append-nil found) ∙ (ap (λ e. found ++ e) (sym (none_left n (lines_from false rest)))
    ∙ (ap (λ r. found ++ line_edits n (lines_from false rest) (lines_from false r)) (sym none) ∙ is))

pub returns-in_default-next_line : goal.returns-in_default-next_line
returns-in_default-next_line c = cut_off _ _ c.loop-line.number c.loop-line.rest.now c.loop-line.rest_of_tidy.now c.in_default-next_line.ensures c.loop-line.invariant.edits

pub returns : goal.returns
returns c = at_end _ _ c.loop-line.number c.loop-line.rest.now c.loop-line.rest_of_tidy.now c.in_default.ensures c.loop-line.invariant.edits
