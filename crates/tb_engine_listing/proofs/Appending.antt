-- What the loops over lists and ranges have appended. F makes a text of a list, f a text of each of its items.
use Rattle.std.proofs.Common.{◌≡◌, ℕ, suc, ◌+◌, ◌-◌, ◌<◌, List, ◌∷◌, ◌++◌, length, drop, get_or, [], sym, ap, ◌∙◌, arith, append_assoc, append-nil}
use Rattle.std.specs.List.{range_with_len}
use Rattle.std.proofs.lemmas.List.{drop_more}

-- one more of the items that are still to come
pub more : {A : Type 0} (F : List A → List ℕ) (f : A → List ℕ) → ((x : A) (xs : List A) → F (x ∷ xs) ≡ f x ++ F xs)
    → (xs : List A) (i : ℕ) (d : A) (now new whole : List ℕ) → i < length xs
    → now ++ F (drop i xs) ≡ whole → new ≡ now ++ f (get_or xs i d) → new ++ F (drop (i + 1) xs) ≡ whole
more F f each xs i d now new whole l e a =
    let x = get_or xs i d in let rest = drop (i + 1) xs in
    ap (λ t. t ++ F rest) a ∙ append_assoc now (f x) (F rest) ∙ ap (λ t. now ++ t) (sym (each x rest)) ∙ ap (λ t. now ++ F t) (sym (drop_more xs i d l)) ∙ e

-- one more of the numbers of a range that are still to come
pub range_more : (F : List ℕ → List ℕ) (f : ℕ → List ℕ) → ((x : ℕ) (xs : List ℕ) → F (x ∷ xs) ≡ f x ++ F xs) → (i end : ℕ) (now new whole : List ℕ) → i < end
    → now ++ F (range_with_len i (end - i)) ≡ whole → new ≡ now ++ f i → new ++ F (range_with_len (i + 1) (end - (i + 1))) ≡ whole
range_more F f each i end now new whole l e a =
    let n : end - i ≡ suc (end - (i + 1)) = omega arith in
    let rest = range_with_len (i + 1) (end - (i + 1)) in
    ap (λ t. t ++ F rest) a ∙ append_assoc now (f i) (F rest) ∙ ap (λ t. now ++ t) (sym (each i rest)) ∙ ap (λ k. now ++ F (range_with_len i k)) (sym n) ∙ e

-- what was appended piece by piece, from the last one on
pub last : (t u x : List ℕ) → u ≡ t ++ x → u ≡ t ++ (x ++ [])
last t u x e = e ∙ ap (λ z. t ++ z) (sym (append-nil x))

-- what was appended piece by piece, for two pieces in turn
pub before : (t u w x y : List ℕ) → u ≡ t ++ x → w ≡ u ++ y → w ≡ t ++ (x ++ y)
before t u w x y e f = f ∙ ap (λ z. z ++ y) e ∙ append_assoc t x y
