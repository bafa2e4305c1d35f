-- Walking the blocks of the directory that was laid out.
use Rattle.std.proofs.Common.{◌≡◌, ℕ, zero, suc, ◌==◌, ◌+◌, ◌-◌, ◌*◌, ◌/◌, ◌%◌, ◌<◌, ◌≤◌, Bool, true, not, List, []}
use Rattle.std.proofs.Common.{◌∷◌, ◌++◌, length, take, drop, map, Some, refl, sym, ap, subst, ◌∙◌, arith, append_assoc, length-append}
use Rattle.std.proofs.Common.{length-drop}
use Rattle.std.specs.Prelude.{replicate, flat_map, max, if◌then◌else◌}
use Rattle.std.specs.List.{range_with_len, concat}
use Rattle.std.proofs.lemmas.Bool.{eq-eqb, eqb-true, lt-ltb, le-ltb, lt-leb, agree_below_at}
use Rattle.std.proofs.lemmas.List.{drop-drop, drop_at, take_at, length-replicate}
use Rattle.std.proofs.lemmas.List.Folds.{concat-append}
use Rattle.std.proofs.lemmas.List.FromFn.{length-map-range_with_len, take-map-range_with_len}
use Rattle.tb_machine_disk.specs.declared.image.File.{File}
use Rattle.tb_machine_disk.specs.Images.{blocks_of}
use Rattle.tb_machine_disk.specs.D64.{chain, entries_in}
use Rattle.tb_machine_disk.specs.Layout.{track_at, sector_at, prefix, entry, entries, no_entry, directory_of, directory_blocks}
use Rattle.tb_machine_disk.proofs.Pieces.{AreOf, drop_pieces, eight, take-plus}
use Rattle.tb_machine_disk.proofs.Chains.{chain_last, chain_next}
use Rattle.tb_machine_disk.proofs.Walking.{prefix_two}

-- all entries of the directory
abbrev pub slots : List File → List (List ℕ)
slots files = let n = length files in entries n 0 0 files ++ map (no_entry n) (range_with_len n (144 - n))

-- the i-th entry of n
pub record Slot (n i : ℕ) (s : List ℕ) : Type 0 where
  pub rest : List ℕ
  pub is : s ≡ prefix n i ++ rest
  pub size : length s ≡ 32

-- the entries of n from the i-th on
abbrev pub AreSlots : ℕ → ℕ → List (List ℕ) → Type 0
AreSlots n i [] = Unit {0}
AreSlots n i (s ∷ ss) = Slot n i s × AreSlots n (i + 1) ss

prefix_length : (n i : ℕ) → length (prefix n i) ≡ 2
prefix_length n i = ap length (prefix_two n i).is

entry_length : (k : ℕ) (f : File) → length (entry k f) ≡ 30
entry_length k f =
    let two : List ℕ = (blocks_of f % 256) ∷ (blocks_of f / 256) ∷ [] in
    let a = length-append f.name.field (replicate 9 0) in
    let b = length-append (f.name.field ++ replicate 9 0) two in
    omega (arith, a, b, length-replicate {A = ℕ} 9 0, f.name.full)

no_slots : (n i count : ℕ) → AreSlots n i (map (no_entry n) (range_with_len i count))
no_slots n i zero = tt
no_slots n i (suc count) = (
  record {
    rest = replicate 30 0;
    is = refl;
    size = length-append (prefix n i) (replicate 30 0) ∙ omega (arith, prefix_length n i, length-replicate {A = ℕ} 30 0);
  },
  no_slots n (i + 1) count,
)

entries_length : (n i k : ℕ) (files : List File) → length (entries n i k files) ≡ length files
unfolding entries
entries_length n i k [] = refl
entries_length n i k (f ∷ fs) = ap suc (entries_length n (i + 1) (k + blocks_of f) fs)

file_slots : (n i k : ℕ) (files : List File) (others : List (List ℕ)) → AreSlots n (i + length files) others → AreSlots n i (entries n i k files ++ others)
unfolding entries
file_slots n i k [] others are = let z : i + 0 ≡ i = omega arith in subst (λ j. AreSlots n j others) z are
file_slots n i k (f ∷ fs) others are =
    let more : i + suc (length fs) ≡ i + 1 + length fs = omega arith in (
      record {
        rest = entry k f;
        is = refl;
        size = length-append (prefix n i) (entry k f) ∙ omega (arith, prefix_length n i, entry_length k f);
      },
      file_slots n (i + 1) (k + blocks_of f) fs others (subst (λ j. AreSlots n j others) more are),
    )

-- the directory's entries are those of the layout
pub slots_are : (files : List File) → AreSlots (length files) 0 (slots files)
slots_are files =
    let n : ℕ = length files in
    let z : n ≡ 0 + n = omega arith in
    file_slots n 0 0 files (map (no_entry n) (range_with_len n (144 - n))) (subst (λ j. AreSlots n j (map (no_entry n) (range_with_len n (144 - n)))) z (no_slots n n (144 - n)))

-- the directory has 144 entries
pub slots_length : (files : List File) → length files ≤ 144 → length (slots files) ≡ 144
slots_length files few =
    let n : ℕ = length files in
    length-append (entries n 0 0 files) (map (no_entry n) (range_with_len n (144 - n)))
    ∙ omega (arith, entries_length n 0 0 files, length-map-range_with_len (no_entry n) n (144 - n))

sizes : (n i : ℕ) (ss : List (List ℕ)) → AreSlots n i ss → AreOf 32 ss
sizes n i [] are = tt
sizes n i (s ∷ ss) are = (are.0.size, sizes n (i + 1) ss are.1)

dropped : (n i j : ℕ) (ss : List (List ℕ)) → AreSlots n i ss → j ≤ length ss → AreSlots n (i + j) (drop j ss)
dropped n i zero ss are h = let z : i + 0 ≡ i = omega arith in subst (λ m. AreSlots n m ss) (sym z) are
dropped n i (suc j) [] are h = tt
dropped n i (suc j) (s ∷ ss) are h =
    let more : i + 1 + j ≡ i + suc j = omega arith in
    subst (λ m. AreSlots n m (drop j ss)) more (dropped n (i + 1) j ss are.1 (omega arith))

-- joining what a function gives for each element, end to end, is `flat_map`
concat-map : (f : ℕ → List ℕ) (xs : List ℕ) → concat (map f xs) ≡ flat_map f xs
concat-map f [] = refl
concat-map f (x ∷ xs) = ap (λ z. f x ++ z) (concat-map f xs)

-- the directory is its entries, end to end
pub directory_is : (files : List File) → directory_of files ≡ concat (slots files)
directory_is files =
    let n : ℕ = length files in
    ap (λ z. concat (entries n 0 0 files) ++ z) (sym (concat-map (no_entry n) (range_with_len n (144 - n))))
    ∙ sym (concat-append (entries n 0 0 files) (map (no_entry n) (range_with_len n (144 - n))))

-- the blocks of the directory are these bytes
pub record ReadsDirectory (blocks : ℕ → List ℕ) (files : List File) : Type 0 where
  pub at : (j : ℕ) → j < 18 → blocks (358 + j) ≡ take 256 (drop (256 * j) (directory_of files))

slot_block : (blocks : ℕ → List ℕ) (files : List File) (j : ℕ) → ReadsDirectory blocks files → length files ≤ 144 → j < 18
    → blocks (358 + j) ≡ take 256 (concat (drop (8 * j) (slots files)))
slot_block blocks files j reads few h =
    let block_index : 256 * j ≡ 32 * (8 * j) = omega arith in
    reads.at j h ∙ ap (λ d. take 256 (drop (256 * j) d)) (directory_is files) ∙ ap (λ m. take 256 (drop m (concat (slots files)))) block_index
    ∙ ap (take 256) (drop_pieces 32 (8 * j) (slots files) (sizes (length files) 0 (slots files) (slots_are files)) (omega (arith, slots_length files few)))

-- a block of eight entries or more begins with the first one's prefix
record Begins (n i : ℕ) (b : List ℕ) : Type 0 where
  rest : List ℕ
  is : b ≡ prefix n i ++ rest

first_of : (n i : ℕ) (ss : List (List ℕ)) → AreSlots n i ss → 0 < length ss → Begins n i (take 256 (concat ss))
first_of n i [] are h = absurd (omega arith)
first_of n i (s ∷ ss) are h =
    let two = prefix_two n i in
    let x : List ℕ = are.0.rest ++ concat ss in
    record {
      rest = take 254 x;
      is =
          ap (λ z. take 256 (z ++ concat ss)) are.0.is ∙ ap (take 256) (append_assoc (prefix n i) are.0.rest (concat ss))
          ∙ ap (λ p. take 256 (p ++ x)) two.is ∙ ap (λ p. p ++ take 254 x) (sym two.is);
    }

begins : (blocks : ℕ → List ℕ) (files : List File) (j : ℕ) → ReadsDirectory blocks files → length files ≤ 144 → j < 18
    → Begins (length files) (8 * j) (blocks (358 + j))
begins blocks files j reads few h =
    let n : ℕ = length files in
    let ss : List (List ℕ) = drop (8 * j) (slots files) in
    let z : 0 + 8 * j ≡ 8 * j = omega arith in
    let are = subst (λ m. AreSlots n m ss) z (dropped n 0 (8 * j) (slots files) (slots_are files) (omega (arith, slots_length files few))) in
    let b = first_of n (8 * j) ss are (omega (arith, length-drop (8 * j) (slots files), slots_length files few)) in
    record { rest = b.rest; is = slot_block blocks files j reads few h ∙ b.is }

abbrev pick : Bool → Bool → Bool → ℕ → List ℕ
pick a b c k = if a then 0 ∷ 0 ∷ [] else if b then 0 ∷ 0 ∷ [] else if c then 18 ∷ (k / 8 + 2) ∷ [] else 0 ∷ 255 ∷ []

prefix_next : (n k : ℕ) → k % 8 ≡ 0 → k < max n 1 → k + 8 < n → prefix n k ≡ 18 ∷ (k / 8 + 2) ∷ []
prefix_next n k e h l =
    let a = eq-eqb (k % 8) 0 e in let b = lt-leb (max n 1) k h in let c = lt-ltb (k + 8) n l in
    λ i. pick (not (a i)) (b i) (c i) k

prefix_last : (n k : ℕ) → k % 8 ≡ 0 → k < max n 1 → n ≤ k + 8 → prefix n k ≡ 0 ∷ 255 ∷ []
prefix_last n k e h l =
    let a = eq-eqb (k % 8) 0 e in let b = lt-leb (max n 1) k h in let c = le-ltb (k + 8) n l in
    λ i. pick (not (a i)) (b i) (c i) k

track_there : (j : ℕ) → j < 18 → track_at (358 + j) ≡ 18
track_there j h = eqb-true _ _ (agree_below_at (λ j. track_at (358 + j) == 18) (λ j. true) 18 j refl h)

sector_there : (j : ℕ) → j < 18 → sector_at (358 + j) ≡ j + 1
sector_there j h = eqb-true _ _ (agree_below_at (λ j. sector_at (358 + j) == j + 1) (λ j. true) 18 j refl h)

-- the chain of the directory's blocks from the j-th on
pub directory_chain : (blocks : ℕ → List ℕ) (files : List File) → ReadsDirectory blocks files → length files ≤ 144
    → (c j most : ℕ) → j + suc c ≡ directory_blocks (length files) → c < most
    → chain most blocks (track_at (358 + j)) (sector_at (358 + j)) ≡ Some (range_with_len (358 + j) (suc c))
directory_chain blocks files reads few c j zero e h = absurd (omega arith)
directory_chain blocks files reads few zero j (suc most) e h =
    let n : ℕ = length files in
    let b = begins blocks files j reads few (omega arith) in
    let last = prefix_last n (8 * j) (omega arith) (omega arith) (omega arith) in
    chain_last most blocks (358 + j) 255 b.rest (omega arith) (b.is ∙ ap (λ p. p ++ b.rest) last)
directory_chain blocks files reads few (suc c) j (suc most) e h =
    let n : ℕ = length files in
    let b = begins blocks files j reads few (omega arith) in
    let next = prefix_next n (8 * j) (omega arith) (omega arith) (omega arith) in
    let t = track_there (j + 1) (omega arith) in
    let number : 8 * j / 8 + 2 ≡ j + 1 + 1 = omega arith in
    let s = number ∙ sym (sector_there (j + 1) (omega arith)) in
    let block_index : 358 + (j + 1) ≡ 358 + j + 1 = omega arith in
    let link : blocks (358 + j) ≡ track_at (358 + (j + 1)) ∷ sector_at (358 + (j + 1)) ∷ b.rest =
    b.is ∙ ap (λ p. p ++ b.rest) next ∙ (λ i. sym t i ∷ s i ∷ b.rest) in
    let rest = directory_chain blocks files reads few c (j + 1) most (omega arith) (omega arith) in
    chain_next most blocks (358 + j) (358 + (j + 1)) b.rest (range_with_len (358 + (j + 1)) (suc c)) (omega arith) (omega arith) link rest
    ∙ ap (λ q. Some ((358 + j) ∷ range_with_len q (suc c))) block_index

-- the entries in the directory's blocks
pub entries_there : (blocks : ℕ → List ℕ) (files : List File) → ReadsDirectory blocks files → length files ≤ 144
    → (c j : ℕ) → j + c ≤ 18 → flat_map (λ p. entries_in (blocks p)) (range_with_len (358 + j) c) ≡ take (8 * c) (drop (8 * j) (slots files))
entries_there blocks files reads few zero j h = refl
entries_there blocks files reads few (suc c) j h =
    let n : ℕ = length files in
    let ss : List (List ℕ) = drop (8 * j) (slots files) in
    let block_index : 358 + j + 1 ≡ 358 + (j + 1) = omega arith in
    let there : 8 * (j + 1) ≡ 8 * j + 8 = omega arith in
    let all : 8 + 8 * c ≡ 8 * suc c = omega arith in
    let z : 0 + 8 * j ≡ 8 * j = omega arith in
    let are = subst (λ m. AreSlots n m ss) z (dropped n 0 (8 * j) (slots files) (slots_are files) (omega (arith, slots_length files few))) in
    let here : entries_in (blocks (358 + j)) ≡ take 8 ss =
    ap entries_in (slot_block blocks files j reads few (omega arith))
    ∙ eight ss (sizes n (8 * j) ss are) (omega (arith, length-drop (8 * j) (slots files), slots_length files few)) in
    ap (λ x. x ++ flat_map (λ p. entries_in (blocks p)) (range_with_len (358 + j + 1) c)) here
    ∙ ap (λ q. take 8 ss ++ flat_map (λ p. entries_in (blocks p)) (range_with_len q c)) block_index
    ∙ ap (λ x. take 8 ss ++ x) (entries_there blocks files reads few c (j + 1) (omega arith))
    ∙ ap (λ m. take 8 ss ++ take (8 * c) (drop m (slots files))) there
    ∙ ap (λ x. take 8 ss ++ take (8 * c) x) (sym (drop-drop 8 (8 * j) (slots files)))
    ∙ take-plus 8 (8 * c) ss ∙ ap (λ m. take m ss) all

-- the entries in the blocks that are in use
pub slots_front : (files : List File) → length files ≤ 144
    → take (8 * directory_blocks (length files)) (drop (8 * 0) (slots files))
    ≡ entries (length files) 0 0 files ++ map (no_entry (length files)) (range_with_len (length files) (8 * directory_blocks (length files) - length files))
slots_front files few =
    let n : ℕ = length files in
    let m : ℕ = 8 * directory_blocks n in
    let named : List (List ℕ) = entries n 0 0 files in
    let unused : List (List ℕ) = map (no_entry n) (range_with_len n (144 - n)) in
    let long = entries_length n 0 0 files in
    let split : n + (m - n) ≡ m = omega arith in
    let front : take n (named ++ unused) ≡ named = take_at named unused n long in
    let back : drop n (named ++ unused) ≡ unused = drop_at named unused n long in
    ap (λ k. take k (named ++ unused)) (sym split) ∙ sym (take-plus n (m - n) (named ++ unused))
    ∙ (λ i. front i ++ take (m - n) (back i)) ∙ ap (λ x. named ++ x) (take-map-range_with_len (no_entry n) n (144 - n) (m - n) (omega (arith, few)))

-- the directory has 18 blocks of 256 bytes
pub directory_length : (files : List File) → length files ≤ 144 → length (directory_of files) ≡ 4608
directory_length files few =
    ap length (directory_is files) ∙ concat_length (slots files) (sizes (length files) 0 (slots files) (slots_are files)) ∙ omega (arith, slots_length files few)
  where
    concat_length : (ss : List (List ℕ)) → AreOf 32 ss → length (concat ss) ≡ 32 * length ss
    concat_length [] are = refl
    concat_length (s ∷ ss) are = length-append s (concat ss) ∙ omega (arith, are.0, concat_length ss are.1)
