-- What the loops over files, entries and tracks have appended.
use Rattle.std.proofs.Common.{◌≡◌, ℕ, suc, ◌+◌, ◌-◌, ◌*◌, ◌<◌, ◌≤◌, List, [], ◌∷◌, ◌++◌, length, take, drop, get_or}
use Rattle.std.proofs.Common.{refl, sym, ap, ◌∙◌, arith, append_assoc, append-nil, length-append}
use Rattle.std.specs.Prelude.{sum_by, flat_map, replicate}
use Rattle.std.specs.List.{range_with_len, concat}
use Rattle.std.proofs.lemmas.List.{drop_more, drop_all, length-replicate}
use Rattle.std.proofs.lemmas.List.Sums.{sum_by-cons, sum_by-drop_more, sum_by_more, sum_by_more_le}
use Rattle.tb_machine_disk.specs.declared.image.File.{File}
use Rattle.tb_machine_disk.specs.Images.{blocks_of}
use Rattle.tb_machine_disk.specs.Layout.{further, laid, laid_all, prefix, entry, entries, file_area}
use Rattle.tb_machine_disk.proofs.Chains.{laid_length}

counted_more : (files : List File) (i k m : ℕ) (f : File) → k + sum_by blocks_of (drop i files) ≡ sum_by blocks_of files → i < length files
    → f ≡ get_or files i f → m ≡ further f.bytes.now → (k + (m + 1)) + sum_by blocks_of (drop (i + 1) files) ≡ sum_by blocks_of files
counted_more files i k m f c h is e = let s = sum_by-drop_more blocks_of files i f h in let b = ap blocks_of is in omega (arith, s, b, c, e)

-- the blocks of the next file are among the 664
pub fits : (files : List File) (i k : ℕ) (f : File) → k + sum_by blocks_of (drop i files) ≡ sum_by blocks_of files → i < length files
    → f ≡ get_or files i f → sum_by blocks_of files ≤ 664 → k + blocks_of f ≤ 664
fits files i k f c h is few = let s = sum_by-drop_more blocks_of files i f h in let b = ap blocks_of is in omega (arith, s, b, c, few)

-- so the index of its last block is below 664
pub room : (files : List File) (i k : ℕ) (f : File) → k + sum_by blocks_of (drop i files) ≡ sum_by blocks_of files → i < length files
    → f ≡ get_or files i f → sum_by blocks_of files ≤ 664 → k + further f.bytes.now < 664
room files i k f c h is few = let s = fits files i k f c h is few in omega (arith, s)

-- the sum so far, one file on
pub summed_more : (files : List File) (i k m : ℕ) (f : File) → k ≡ sum_by blocks_of (take i files) → i < length files
    → f ≡ get_or files i f → m ≡ further f.bytes.now → k + (m + 1) ≡ sum_by blocks_of (take (i + 1) files)
summed_more files i k m f c h is e = let s = sum_by_more blocks_of files i f h in let b = ap blocks_of is in omega (arith, s, b, c, e)

-- a sum above 664 on the way is a sum above 664 in all
pub summed_past : (files : List File) (i k m : ℕ) (f : File) → k ≡ sum_by blocks_of (take i files) → i < length files
    → f ≡ get_or files i f → m ≡ further f.bytes.now → 664 < k + (m + 1) → 664 < sum_by blocks_of files
summed_past files i k m f c h is e l = let s = sum_by_more_le blocks_of files i f h in let b = ap blocks_of is in omega (arith, s, b, c, e, l)

-- the blocks of the files before the i-th were appended, and k is their number
pub record AreLaid (files : List File) (i k : ℕ) (now : List ℕ) : Type 0 where
  pub count : k + sum_by blocks_of (drop i files) ≡ sum_by blocks_of files
  pub whole : now ++ laid_all k (drop i files) ≡ laid_all 0 files

-- the loop that lays files goes on over a file
pub are_laid_more : (files : List File) (i k m : ℕ) (now new : List ℕ) (f : File) → AreLaid files i k now → i < length files
    → f ≡ get_or files i f → m ≡ further f.bytes.now → new ≡ now ++ laid (further f.bytes.now) k f.bytes.now → AreLaid files (i + 1) (k + (m + 1)) new
unfolding laid_all
are_laid_more files i k m now new f l h is same e = record {
  count = counted_more files i k m f l.count h is same;
  whole =
      let coming : List ℕ = laid_all (k + (further f.bytes.now + 1)) (drop (i + 1) files) in
      let next : drop i files ≡ f ∷ drop (i + 1) files = drop_more files i f h ∙ ap (λ x. x ∷ drop (i + 1) files) (sym is) in
      ap (λ n. new ++ laid_all (k + (n + 1)) (drop (i + 1) files)) same
      ∙ ap (λ x. x ++ coming) e ∙ append_assoc now (laid (further f.bytes.now) k f.bytes.now) coming
      ∙ ap (λ x. now ++ laid_all k x) (sym next) ∙ l.whole;
}

-- after the last file all are laid
pub are_laid_all : (files : List File) (i k : ℕ) (now : List ℕ) → AreLaid files i k now → length files ≤ i → now ≡ laid_all 0 files
unfolding laid_all
are_laid_all files i k now l h = sym (append-nil now) ∙ ap (λ x. now ++ laid_all k x) (sym (drop_all i files h)) ∙ l.whole

-- after the last file the number of blocks is that of all files
pub all_counted : (files : List File) (i k : ℕ) (now : List ℕ) → AreLaid files i k now → length files ≤ i → k ≡ sum_by blocks_of files
all_counted files i k now l h = let n = ap (sum_by blocks_of) (drop_all i files h) in let c = l.count in omega (arith, n, c)

-- the length of the blocks of all files
pub laid_all_length : (k : ℕ) (files : List File) → length (laid_all k files) ≡ 256 * sum_by blocks_of files
unfolding laid_all
laid_all_length k [] = refl
laid_all_length k (f ∷ fs) =
    length-append (laid (further f.bytes.now) k f.bytes.now) (laid_all (k + blocks_of f) fs)
    ∙ omega (arith, laid_length (further f.bytes.now) k f.bytes.now refl, laid_all_length (k + blocks_of f) fs, sum_by-cons blocks_of f fs)

-- the blocks for files take 664 blocks of 256 bytes
pub area_length : (files : List File) → sum_by blocks_of files ≤ 664 → length (file_area files) ≡ 169984
area_length files few =
    length-append (laid_all 0 files) (replicate (256 * (664 - sum_by blocks_of files)) 0)
    ∙ omega (arith, few, laid_all_length 0 files, length-replicate {A = ℕ} (256 * (664 - sum_by blocks_of files)) 0)

-- the entries of the files before the i-th were appended, and k is the number of their blocks
pub record AreNamed (files : List File) (old : List ℕ) (i k : ℕ) (now : List ℕ) : Type 0 where
  pub count : k + sum_by blocks_of (drop i files) ≡ sum_by blocks_of files
  pub whole : now ++ concat (entries (length files) i k (drop i files)) ≡ old ++ concat (entries (length files) 0 0 files)

-- the loop that appends entries goes on over a file
pub are_named_more : (files : List File) (old : List ℕ) (i k m : ℕ) (now between new : List ℕ) (f : File) → AreNamed files old i k now → i < length files
    → f ≡ get_or files i f → m ≡ further f.bytes.now
    → between ≡ now ++ prefix (length files) i → new ≡ between ++ entry k f → AreNamed files old (i + 1) (k + (m + 1)) new
unfolding entries
are_named_more files old i k m now between new f l h is same p e = record {
  count = counted_more files i k m f l.count h is same;
  whole =
      let n : ℕ = length files in
      let coming : List ℕ = concat (entries n (i + 1) (k + (further f.bytes.now + 1)) (drop (i + 1) files)) in
      let next : drop i files ≡ f ∷ drop (i + 1) files = drop_more files i f h ∙ ap (λ x. x ∷ drop (i + 1) files) (sym is) in
      ap (λ b. new ++ concat (entries n (i + 1) (k + (b + 1)) (drop (i + 1) files))) same
      ∙ ap (λ x. x ++ coming) (e ∙ ap (λ x. x ++ entry k f) p ∙ append_assoc now (prefix n i) (entry k f))
      ∙ append_assoc now (prefix n i ++ entry k f) coming
      ∙ ap (λ x. now ++ concat (entries n i k x)) (sym next) ∙ l.whole;
}

-- after the last file all entries are appended
pub are_named_all : (files : List File) (old : List ℕ) (i k : ℕ) (now : List ℕ) → AreNamed files old i k now → length files ≤ i
    → now ≡ old ++ concat (entries (length files) 0 0 files)
unfolding entries
are_named_all files old i k now l h = sym (append-nil now) ∙ ap (λ x. now ++ concat (entries (length files) i k x)) (sym (drop_all i files h)) ∙ l.whole

-- what is appended for each number of a range and what is still to come are the whole
pub range_more : (f : ℕ → List ℕ) (i end : ℕ) (now new all : List ℕ) → i < end → now ++ flat_map f (range_with_len i (end - i)) ≡ all
    → new ≡ now ++ f i → new ++ flat_map f (range_with_len (i + 1) (end - (i + 1))) ≡ all
range_more f i end now new all h l e =
    let next : end - i ≡ suc (end - (i + 1)) = omega arith in
    let coming : List ℕ = flat_map f (range_with_len (i + 1) (end - (i + 1))) in
    ap (λ x. x ++ coming) e ∙ append_assoc now (f i) coming ∙ ap (λ n. now ++ flat_map f (range_with_len i n)) (sym next) ∙ l

-- after the last number of a range there is nothing to come
pub range_all : (f : ℕ → List ℕ) (i end : ℕ) (now all : List ℕ) → end ≤ i → now ++ flat_map f (range_with_len i (end - i)) ≡ all → now ≡ all
range_all f i end now all h l =
    let none : end - i ≡ 0 = omega arith in
    sym (append-nil now) ∙ ap (λ n. now ++ flat_map f (range_with_len i n)) (sym none) ∙ l
