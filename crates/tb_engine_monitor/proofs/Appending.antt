-- What the loops over ranges and checkpoints have appended.
use Rattle.std.proofs.Common.{◌≡◌, ℕ, suc, ◌+◌, ◌-◌, ◌<◌, List, [], ◌∷◌, ◌++◌, length, drop, get_or, map, sym, ap, ◌∙◌, arith, append_assoc, append-nil, ◌≤◌}
use Rattle.std.specs.List.{range_with_len}
use Rattle.std.proofs.lemmas.List.{drop_all, drop_more}
use Rattle.tb_engine_monitor.specs.declared.checkpoints.Checkpoint.{Checkpoint}
use Rattle.tb_engine_monitor.specs.Files.{checkpoint_text, texts_from}

-- one more of a range
pub range_more : {A : Type 0} (f : ℕ → A) (i end : ℕ) (now new whole : List A) → i < end
    → now ++ map f (range_with_len i (end - i)) ≡ whole → new ≡ now ++ (f i ∷ []) → new ++ map f (range_with_len (i + 1) (end - (i + 1))) ≡ whole
range_more f i end now new whole l e a =
    let n : end - i ≡ suc (end - (i + 1)) = omega arith in
    let rest = map f (range_with_len (i + 1) (end - (i + 1))) in
    ap (λ t. t ++ rest) a ∙ append_assoc now (f i ∷ []) rest ∙ ap (λ k. now ++ map f (range_with_len i k)) (sym n) ∙ e

-- one more of the checkpoints that are still to come
pub more : (list : List Checkpoint) (i : ℕ) (d : Checkpoint) (now new whole : List ℕ) → i < length list
    → now ++ texts_from (i + 1) (drop i list) ≡ whole → new ≡ now ++ checkpoint_text (i + 1) (get_or list i d)
    → new ++ texts_from (i + 1 + 1) (drop (i + 1) list) ≡ whole
unfolding texts_from
more list i d now new whole l e a =
    let rest = texts_from (i + 1 + 1) (drop (i + 1) list) in
    ap (λ t. t ++ rest) a ∙ append_assoc now (checkpoint_text (i + 1) (get_or list i d)) rest
    ∙ ap (λ xs. now ++ texts_from (i + 1) xs) (sym (drop_more list i d l)) ∙ e

-- when none is to come, all are there
pub done : (list : List Checkpoint) (i : ℕ) (now whole : List ℕ) → length list ≤ i → now ++ texts_from (i + 1) (drop i list) ≡ whole → now ≡ whole
unfolding texts_from
done list i now whole l e = sym (append-nil now) ∙ ap (λ xs. now ++ texts_from (i + 1) xs) (sym (drop_all i list l)) ∙ e
