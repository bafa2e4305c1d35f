-- The text of strokes that come after others.
use Rattle.std.proofs.Common.{◌≡◌, ℕ, List, [], ◌∷◌, ◌++◌, refl, sym, ◌∙◌, ap, append_assoc}
use Rattle.std.proofs.lemmas.List.{append-nil}
use Rattle.tb_machine_screen.specs.declared.strokes.Stroke.{Stroke}
use Rattle.tb_machine_screen.specs.Strokes.{spelled, spelled_all}

spelled-append : (xs ys : List Stroke) → spelled_all (xs ++ ys) ≡ spelled_all xs ++ spelled_all ys
unfolding spelled_all
spelled-append [] ys = refl
spelled-append (x ∷ xs) ys =
    ap (λ l. spelled x ++ l) (spelled-append xs ys) ∙ sym (append_assoc (spelled x) (spelled_all xs) (spelled_all ys))

-- one text after another
pub spelled_more : (text : List ℕ) (xs ys : List Stroke) → (text ++ spelled_all xs) ++ spelled_all ys ≡ text ++ spelled_all (xs ++ ys)
spelled_more text xs ys =
    append_assoc text (spelled_all xs) (spelled_all ys) ∙ ap (λ l. text ++ l) (sym (spelled-append xs ys))

-- one stroke by itself
pub spelled_one : (x : Stroke) → spelled_all (x ∷ []) ≡ spelled x
unfolding spelled_all
spelled_one x = append-nil (spelled x)
