-- Reading the blocks of an image that was put together.
use Rattle.std.proofs.Common.{◌≡◌, ℕ, ◌+◌, ◌-◌, ◌*◌, ◌<◌, ◌≤◌, List, ◌++◌, length, take, drop, refl, sym, ap, ◌∙◌, inl, inr, arith, length-append, length-drop}
use Rattle.std.specs.Prelude.{if◌then◌else◌}
use Rattle.std.proofs.lemmas.List.{take_all, take-append-le, drop-append-le, drop-drop, drop_at, length-take-le, take-append-drop}
use Rattle.std.proofs.lemmas.Bool.{cases_lt, lt-ltb, le-ltb}
use Rattle.tb_machine_disk.specs.D64.{block}
use Rattle.tb_machine_disk.proofs.Chains.{Reads}

window_left : (m o : ℕ) (xs ys : List ℕ) → o + m ≤ length xs → take m (drop o (xs ++ ys)) ≡ take m (drop o xs)
window_left m o xs ys h = ap (take m) (drop-append-le o xs ys (omega arith)) ∙ take-append-le m (drop o xs) ys (omega (arith, length-drop o xs))

window_right : (m o j : ℕ) (xs ys : List ℕ) → o ≡ length xs + j → take m (drop o (xs ++ ys)) ≡ take m (drop j ys)
window_right m o j xs ys e =
    ap (λ n. take m (drop n (xs ++ ys))) e ∙ ap (take m) (sym (drop-drop j (length xs) (xs ++ ys)))
    ∙ ap (λ l. take m (drop j l)) (drop_at xs ys (length xs) refl)

-- the blocks for files below track 18, the two parts of that track, and the blocks above it
abbrev pub joined : List ℕ → List ℕ → List ℕ → List ℕ
joined area head directory = take 91392 area ++ head ++ directory ++ drop 91392 area

-- the lengths of these parts
pub record Sizes (area head directory : List ℕ) : Type 0 where
  pub of_area : length area ≡ 169984
  pub of_head : length head ≡ 256
  pub of_directory : length directory ≡ 4608

below_length : (area : List ℕ) → length area ≡ 169984 → length (take 91392 area) ≡ 91392
below_length area e = length-take-le 91392 area (omega arith)

reads_below : (area head directory : List ℕ) (k : ℕ) → Sizes area head directory → k < 357
    → block (joined area head directory) k ≡ take 256 (drop (256 * k) area)
reads_below area head directory k s h =
    let below : List ℕ = take 91392 area in
    let above : List ℕ = drop 91392 area in
    let a = below_length area s.of_area in
    let b = length-append below head in
    let c = length-append (below ++ head) directory in
    window_left 256 (256 * k) (below ++ head ++ directory) above (omega (arith, a, b, c, s.of_head, s.of_directory))
    ∙ window_left 256 (256 * k) (below ++ head) directory (omega (arith, a, b, s.of_head))
    ∙ window_left 256 (256 * k) below head (omega (arith, a))
    ∙ sym (window_left 256 (256 * k) below above (omega (arith, a)))
    ∙ ap (λ x. take 256 (drop (256 * k) x)) (take-append-drop 91392 area)

reads_above : (area head directory : List ℕ) (k : ℕ) → Sizes area head directory → 357 ≤ k
    → block (joined area head directory) (k + 19) ≡ take 256 (drop (256 * k) area)
reads_above area head directory k s h =
    let below : List ℕ = take 91392 area in
    let a = below_length area s.of_area in
    let b = length-append below head in
    let c = length-append (below ++ head) directory in
    let back : 91392 + (256 * k - 91392) ≡ 256 * k = omega arith in
    window_right 256 (256 * (k + 19)) (256 * k - 91392) (below ++ head ++ directory) (drop 91392 area) (omega (arith, a, b, c, s.of_head, s.of_directory))
    ∙ ap (take 256) (drop-drop (256 * k - 91392) 91392 area) ∙ ap (λ n. take 256 (drop n area)) back

-- the blocks for files lie where the layout says
pub reads_area : (area head directory : List ℕ) → Sizes area head directory → Reads (block (joined area head directory)) area
reads_area area head directory s = record {
  at = λ k h. elim (cases_lt k 357) [
    | inl l ↦ ap (λ b. block (joined area head directory) (if b then k else k + 19)) (lt-ltb k 357 l) ∙ reads_below area head directory k s l
    | inr g ↦ ap (λ b. block (joined area head directory) (if b then k else k + 19)) (le-ltb k 357 g) ∙ reads_above area head directory k s g
  ];
}

-- the block with index 357 is the head
pub reads_head : (area head directory : List ℕ) → Sizes area head directory → block (joined area head directory) 357 ≡ head
reads_head area head directory s =
    let below : List ℕ = take 91392 area in
    let a = below_length area s.of_area in
    let b = length-append below head in
    let c = length-append (below ++ head) directory in
    window_left 256 91392 (below ++ head ++ directory) (drop 91392 area) (omega (arith, a, b, c, s.of_head, s.of_directory))
    ∙ window_left 256 91392 (below ++ head) directory (omega (arith, a, b, s.of_head))
    ∙ window_right 256 91392 0 below head (omega (arith, a))
    ∙ take_all 256 head (omega (arith, s.of_head))

-- the blocks after the head are those of the directory
pub reads_directory : (area head directory : List ℕ) (j : ℕ) → Sizes area head directory → j < 18
    → block (joined area head directory) (358 + j) ≡ take 256 (drop (256 * j) directory)
reads_directory area head directory j s h =
    let below : List ℕ = take 91392 area in
    let a = below_length area s.of_area in
    let b = length-append below head in
    let c = length-append (below ++ head) directory in
    window_left 256 (256 * (358 + j)) (below ++ head ++ directory) (drop 91392 area) (omega (arith, a, b, c, s.of_head, s.of_directory))
    ∙ window_right 256 (256 * (358 + j)) (256 * j) (below ++ head) directory (omega (arith, a, b, s.of_head))
