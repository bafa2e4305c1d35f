-- Walking the files of the directory that was laid out.
use Rattle.std.proofs.Common.{◌≡◌, ℕ, zero, suc, ◌==◌, ◌+◌, ◌*◌, ◌/◌, ◌%◌, ◌≤◌, Bool, true, false, not, List, [], ◌∷◌}
use Rattle.std.proofs.Common.{◌++◌, length, take, drop, map, Option, Some, None, refl, sym, ap, ◌∙◌, arith, append_assoc, length-append}
use Rattle.std.specs.Prelude.{replicate, flat_map, slice_index, option_map, option_and_then, sum_by, max, nat_le, nat_lt, if◌then◌else◌}
use Rattle.std.specs.List.{range_with_len}
use Rattle.std.proofs.lemmas.Bool.{eq-eqb}
use Rattle.std.proofs.lemmas.List.{take_at, drop_at, drop-drop, get_or_at, get_or-append_right, length-replicate}
use Rattle.std.proofs.lemmas.List.FromFn.{length-map-range_with_len}
use Rattle.std.proofs.lemmas.List.Sums.{sum_by-cons}
use Rattle.tb_machine_disk.specs.declared.image.File.{File}
use Rattle.tb_machine_disk.specs.Images.{blocks_of, text_of}
use Rattle.tb_machine_disk.specs.D64.{Found, sectors, found, file_of, files_of, name_in}
use Rattle.tb_machine_disk.specs.Layout.{file_block, track_at, sector_at, further, laid, laid_all, prefix, entry, entries, no_entry}
use Rattle.tb_machine_disk.proofs.Chains.{Reads, Follows, follows, indices_from, laid_length}

-- the files as a walk finds them, the first block of which is the k-th for files
abbrev pub found_from : ℕ → List File → List Found
found_from k [] = []
found_from k (f ∷ fs) =
    record { name = text_of f.name; bytes = f.bytes.now; blocks_used = indices_from k (further f.bytes.now) } ∷ found_from (k + blocks_of f) fs

-- a list of two
pub record Two (xs : List ℕ) : Type 0 where
  pub first : ℕ
  pub second : ℕ
  pub is : xs ≡ first ∷ second ∷ []

-- the prefix of an entry has two bytes
pub prefix_two : (n k : ℕ) → Two (prefix n k)
prefix_two n k = by (not (k % 8 == 0)) (nat_le (max n 1) k) (nat_lt (k + 8) n)
  where
    by : (a b c : Bool) → Two (if a then 0 ∷ 0 ∷ [] else if b then 0 ∷ 0 ∷ [] else if c then 18 ∷ (k / 8 + 2) ∷ [] else 0 ∷ 255 ∷ [])
    by true b c = record { first = 0; second = 0; is = refl }
    by false true c = record { first = 0; second = 0; is = refl }
    by false false true = record { first = 18; second = k / 8 + 2; is = refl }
    by false false false = record { first = 0; second = 255; is = refl }

-- what follows the first five bytes of a file's entry
abbrev behind : File → List ℕ
behind f = f.name.field ++ replicate 9 0 ++ (blocks_of f % 256) ∷ (blocks_of f / 256) ∷ []

abbrev entry_bytes : ℕ → ℕ → ℕ → File → List ℕ
entry_bytes x y k f = x ∷ y ∷ 0x82 ∷ track_at (file_block k) ∷ sector_at (file_block k) ∷ behind f

named_in : (f : File) → take 16 (behind f) ≡ f.name.field
named_in f =
    ap (take 16) (append_assoc f.name.field (replicate 9 0) ((blocks_of f % 256) ∷ (blocks_of f / 256) ∷ []))
    ∙ take_at f.name.field (replicate 9 0 ++ (blocks_of f % 256) ∷ (blocks_of f / 256) ∷ []) 16 f.name.full

low_at : (f : File) → length (f.name.field ++ replicate 9 0) ≡ 25
low_at f = omega (arith, length-append f.name.field (replicate 9 0), length-replicate {A = ℕ} 9 0, f.name.full)

low_byte : (f : File) → slice_index (behind f) 25 ≡ blocks_of f % 256
low_byte f = get_or_at (f.name.field ++ replicate 9 0) (blocks_of f % 256) ((blocks_of f / 256) ∷ []) 0 25 (low_at f)

high_byte : (f : File) → slice_index (behind f) 26 ≡ blocks_of f / 256
high_byte f = get_or-append_right (f.name.field ++ replicate 9 0) ((blocks_of f % 256) ∷ (blocks_of f / 256) ∷ []) 25 26 0 (low_at f) (omega arith)

length-blocks_used : (k more : ℕ) → length (indices_from k more) ≡ suc more
length-blocks_used k more = length-map-range_with_len file_block k (suc more)

counted : (f : File) (k : ℕ) → slice_index (behind f) 25 + 256 * slice_index (behind f) 26 ≡ length (indices_from k (further f.bytes.now))
counted f k = omega (arith, low_byte f, high_byte f, length-blocks_used k (further f.bytes.now))

abbrev found_if : List ℕ → Bool → List ℕ → List ℕ → Option Found
found_if blocks_used right name bytes = if right then Some (record { name = name; bytes = bytes; blocks_used = blocks_used }) else None

-- an entry's file
file_found : (blocks : ℕ → List ℕ) (x y k : ℕ) (f : File) → Follows blocks sectors k (further f.bytes.now) f.bytes.now
    → file_of blocks (entry_bytes x y k f) ≡ Some (record { name = text_of f.name; bytes = f.bytes.now; blocks_used = indices_from k (further f.bytes.now) })
unfolding file_of
file_found blocks x y k f follow =
    let blocks_used : List ℕ = indices_from k (further f.bytes.now) in
    let right = eq-eqb (slice_index (behind f) 25 + 256 * slice_index (behind f) 26) (length blocks_used) (counted f k) in
    let name = ap name_in (named_in f) in
    ap (option_and_then (found blocks (entry_bytes x y k f))) follow.goes
    ∙ (λ i. found_if blocks_used (right i) (name i) (follow.holds i))

-- the bytes after the blocks of a file
behind_file : (area tail : List ℕ) (k : ℕ) (bytes : List ℕ) → drop (256 * k) area ≡ laid (further bytes) k bytes ++ tail
    → drop (256 * (k + (further bytes + 1))) area ≡ tail
behind_file area tail k bytes at =
    let block_index : 256 * (k + (further bytes + 1)) ≡ 256 * k + 256 * (further bytes + 1) = omega arith in
    ap (λ n. drop n area) block_index ∙ sym (drop-drop (256 * (further bytes + 1)) (256 * k) area) ∙ ap (drop (256 * (further bytes + 1))) at
    ∙ drop_at (laid (further bytes) k bytes) tail (256 * (further bytes + 1)) (laid_length (further bytes) k bytes refl)

-- the entries give the files back
pub files_found : (blocks : ℕ → List ℕ) (area tail : List ℕ) → Reads blocks area → (n i k : ℕ) (files : List File) (others : List (List ℕ))
    → k + sum_by blocks_of files ≤ 664 → drop (256 * k) area ≡ laid_all k files ++ tail → files_of blocks others ≡ Some []
    → files_of blocks (entries n i k files ++ others) ≡ Some (found_from k files)
unfolding entries laid_all files_of
files_found blocks area tail reads n i k [] others few at none = none
files_found blocks area tail reads n i k (f ∷ fs) others few at none =
    let sum = sum_by-cons blocks_of f fs in
    let here : drop (256 * k) area ≡ laid (further f.bytes.now) k f.bytes.now ++ (laid_all (k + blocks_of f) fs ++ tail) =
    at ∙ append_assoc (laid (further f.bytes.now) k f.bytes.now) (laid_all (k + blocks_of f) fs) tail in
    let follow = follows blocks area (laid_all (k + blocks_of f) fs ++ tail) reads (further f.bytes.now) k sectors f.bytes.now (omega (arith, sum, few)) refl (omega (arith, sum, few)) here in
    let next = behind_file area (laid_all (k + blocks_of f) fs ++ tail) k f.bytes.now here in
    let rest = files_found blocks area tail reads n (i + 1) (k + blocks_of f) fs others (omega (arith, sum, few)) next none in
    let two = prefix_two n i in
    let others' : List (List ℕ) = entries n (i + 1) (k + blocks_of f) fs ++ others in
    let one : Found = record { name = text_of f.name; bytes = f.bytes.now; blocks_used = indices_from k (further f.bytes.now) } in
    ap (λ p. files_of blocks ((p ++ entry k f) ∷ others')) two.is
    ∙ ap (option_and_then (λ file. option_map (λ files. file ∷ files) (files_of blocks others'))) (file_found blocks two.first two.second k f follow)
    ∙ ap (option_map (λ files. one ∷ files)) rest

-- entries of no file give none
pub none_found : (blocks : ℕ → List ℕ) (n i count : ℕ) → files_of blocks (map (no_entry n) (range_with_len i count)) ≡ Some []
unfolding files_of
none_found blocks n i zero = refl
none_found blocks n i (suc count) =
    ap (λ p. files_of blocks ((p ++ replicate 30 0) ∷ map (no_entry n) (range_with_len (i + 1) count))) (prefix_two n i).is
    ∙ none_found blocks n (i + 1) count

-- what the walk found is what there was
pub names_found : (k : ℕ) (files : List File) → map (λ f. f.name) (found_from k files) ≡ map (λ f. text_of f.name) files
names_found k [] = refl
names_found k (f ∷ fs) = ap (λ x. text_of f.name ∷ x) (names_found (k + blocks_of f) fs)

-- the bytes of the files found are those of the files
pub bytes_found : (k : ℕ) (files : List File) → map (λ f. f.bytes) (found_from k files) ≡ map (λ f. f.bytes.now) files
bytes_found k [] = refl
bytes_found k (f ∷ fs) = ap (λ x. f.bytes.now ∷ x) (bytes_found (k + blocks_of f) fs)

-- the indices of the files' blocks are those of the blocks for files from the k-th on
pub indices_found : (k : ℕ) (files : List File) → flat_map (λ f. f.blocks_used) (found_from k files) ≡ map file_block (range_with_len k (sum_by blocks_of files))
indices_found k [] = refl
indices_found k (f ∷ fs) =
    let more : sum_by blocks_of (f ∷ fs) ≡ suc (further f.bytes.now) + sum_by blocks_of fs = sum_by-cons blocks_of f fs ∙ omega arith in
    ap (λ x. indices_from k (further f.bytes.now) ++ x) (indices_found (k + blocks_of f) fs)
    ∙ joined_ranges (suc (further f.bytes.now)) k (k + blocks_of f) (sum_by blocks_of fs) (omega arith)
    ∙ ap (λ n. map file_block (range_with_len k n)) (sym more)
  where
    joined_ranges : (a k l b : ℕ) → l ≡ k + a → map file_block (range_with_len k a) ++ map file_block (range_with_len l b) ≡ map file_block (range_with_len k (a + b))
    joined_ranges zero k l b e =
        let z : 0 + b ≡ b = omega arith in
        let s : l ≡ k = omega arith in
        (λ i. map file_block (range_with_len (s i) (sym z i)))
    joined_ranges (suc a) k l b e =
        let z : suc (a + b) ≡ suc a + b = omega arith in
        ap (λ x. file_block k ∷ x) (joined_ranges a (k + 1) l b (omega arith)) ∙ ap (λ n. map file_block (range_with_len k n)) z
