-- Pieces of one length that are joined end to end.
use Rattle.std.proofs.Common.{◌≡◌, ℕ, zero, suc, ◌+◌, ◌-◌, ◌*◌, ◌<◌, ◌≤◌, List, [], ◌∷◌, ◌++◌, length, take, drop, get_or, refl, sym, ap, ◌∙◌, arith}
use Rattle.std.specs.List.{concat}
use Rattle.std.proofs.lemmas.List.{take_at, drop_at, drop-drop, take-take, drop-take, length-take-le, get_or-take}
use Rattle.std.proofs.lemmas.List.FromFn.{fill_by_all}
use Rattle.tb_machine_disk.specs.D64.{entries_in}

-- each piece has the given number of bytes
abbrev pub AreOf : ℕ → List (List ℕ) → Type 0
AreOf size [] = Unit {0}
AreOf size (p ∷ pieces) = (length p ≡ size) × AreOf size pieces

-- what is left after the first pieces
pub drop_pieces : (size i : ℕ) (pieces : List (List ℕ)) → AreOf size pieces → i ≤ length pieces
    → drop (size * i) (concat pieces) ≡ concat (drop i pieces)
drop_pieces size zero pieces are h = let z : size * 0 ≡ 0 = omega arith in ap (λ n. drop n (concat pieces)) z
drop_pieces size (suc i) [] are h = absurd (omega arith)
drop_pieces size (suc i) (p ∷ pieces) are h =
    let more : size * suc i ≡ size + size * i = omega arith in
    ap (λ n. drop n (p ++ concat pieces)) more ∙ sym (drop-drop (size * i) size (p ++ concat pieces))
    ∙ ap (drop (size * i)) (drop_at p (concat pieces) size are.0) ∙ drop_pieces size i pieces are.1 (omega arith)

-- a piece of one length is found by its index
pub piece_at : (size i : ℕ) (pieces : List (List ℕ)) → AreOf size pieces → i < length pieces
    → take size (drop (size * i) (concat pieces)) ≡ get_or pieces i []
piece_at size i [] are h = absurd (omega arith)
piece_at size zero (p ∷ pieces) are h =
    let z : size * 0 ≡ 0 = omega arith in
    ap (λ n. take size (drop n (p ++ concat pieces))) z ∙ take_at p (concat pieces) size are.0
piece_at size (suc i) (p ∷ pieces) are h =
    let more : size * suc i ≡ size + size * i = omega arith in
    ap (λ n. take size (drop n (p ++ concat pieces))) more ∙ ap (take size) (sym (drop-drop (size * i) size (p ++ concat pieces)))
    ∙ ap (λ x. take size (drop (size * i) x)) (drop_at p (concat pieces) size are.0) ∙ piece_at size i pieces are.1 (omega arith)

-- the entries of a block that begins with eight pieces
pub eight : (pieces : List (List ℕ)) → AreOf 32 pieces → 8 ≤ length pieces
    → entries_in (take 256 (concat pieces)) ≡ take 8 pieces
eight pieces are h =
    sym (fill_by_all (λ i. take 32 (drop (32 * i) (take 256 (concat pieces)))) (take 8 pieces) 8 [] (length-take-le 8 pieces h) (λ i l. entry_at i l))
  where
    entry_at : (i : ℕ) → i < 8 → get_or (take 8 pieces) i [] ≡ take 32 (drop (32 * i) (take 256 (concat pieces)))
    entry_at i l =
        let left : 32 * i + (256 - 32 * i) ≡ 256 = omega arith in
        get_or-take 8 pieces i [] l ∙ sym (piece_at 32 i pieces are (omega arith))
        ∙ sym (take-take 32 (256 - 32 * i) (drop (32 * i) (concat pieces)) (omega arith))
        ∙ ap (take 32) (sym (drop-take (32 * i) (256 - 32 * i) (concat pieces)))
        ∙ ap (λ n. take 32 (drop (32 * i) (take n (concat pieces)))) left

take-nil : (n : ℕ) (none : List (List ℕ)) → none ≡ [] → take n none ≡ []
take-nil zero none e = refl
take-nil (suc n) [] e = refl
take-nil (suc n) (p ∷ pieces) e = cc

-- a part and what follows it
pub take-plus : (a b : ℕ) (pieces : List (List ℕ)) → take a pieces ++ take b (drop a pieces) ≡ take (a + b) pieces
take-plus zero b pieces = let z : 0 + b ≡ b = omega arith in ap (λ n. take n pieces) (sym z)
take-plus (suc a) b [] = take-nil b [] refl ∙ sym (take-nil (suc a + b) [] refl)
take-plus (suc a) b (p ∷ pieces) = let more : suc (a + b) ≡ suc a + b = omega arith in ap (λ x. p ∷ x) (take-plus a b pieces) ∙ ap (λ n. take n (p ∷ pieces)) more
