-- What the loop over a range has appended.
use Rattle.std.proofs.Common.{◌≡◌, ℕ, suc, ◌+◌, ◌-◌, ◌<◌, List, ◌∷◌, ◌++◌, [], sym, ap, ◌∙◌, arith, append_assoc}
use Rattle.std.specs.List.{range_with_len}

-- F makes a text of a list of numbers, f a text of each: one more of those that are still to come
pub range_more : (F : List ℕ → List ℕ) (f : ℕ → List ℕ) → ((x : ℕ) (xs : List ℕ) → F (x ∷ xs) ≡ f x ++ F xs) → (i end : ℕ) (now new whole : List ℕ) → i < end
    → now ++ F (range_with_len i (end - i)) ≡ whole → new ≡ now ++ f i → new ++ F (range_with_len (i + 1) (end - (i + 1))) ≡ whole
range_more F f each i end now new whole l e a =
    let n : end - i ≡ suc (end - (i + 1)) = omega arith in
    let rest = range_with_len (i + 1) (end - (i + 1)) in
    ap (λ t. t ++ F rest) a ∙ append_assoc now (f i) (F rest) ∙ ap (λ t. now ++ t) (sym (each i rest)) ∙ ap (λ k. now ++ F (range_with_len i k)) (sym n) ∙ e
