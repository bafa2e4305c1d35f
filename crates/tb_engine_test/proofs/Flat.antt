-- Texts that are made item by item.
use Rattle.std.proofs.Common.{◌≡◌, ◌<◌, ◌+◌, ℕ, zero, suc, List, [], ◌∷◌, ◌++◌, length, get_or, map, take, sym, ap, ◌∙◌, append-nil, append_assoc, arith}
use Rattle.std.specs.Prelude.{flat_map}

-- the text of one more item
pub flat_more : {A B : Type 0} (f : B → List ℕ) (g : A → B) (xs : List A) (i : ℕ) (x : A) → i < length xs → x ≡ get_or xs i x
    → flat_map f (map g (take (i + 1) xs)) ≡ flat_map f (map g (take i xs)) ++ f (g x)
flat_more f g [] i x lt is = absurd (omega (arith, lt))
flat_more f g (y ∷ xs) zero x lt is = append-nil (f (g y)) ∙ ap (λ z. f (g z)) (sym is)
flat_more f g (y ∷ xs) (suc i) x lt is =
    let on : suc i + 1 ≡ suc (i + 1) = omega arith in
    let less : i < length xs = omega (arith, lt) in
    ap (λ k. flat_map f (map g (take k (y ∷ xs)))) on ∙ ap (λ t. f (g y) ++ t) (flat_more f g xs i x less is)
    ∙ sym (append_assoc (f (g y)) (flat_map f (map g (take i xs))) (f (g x)))
