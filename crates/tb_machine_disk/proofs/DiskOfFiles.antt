-- The image is that of a disk with the files.
use Rattle.std.proofs.Common.{◌≡◌, ℕ, suc, ◌+◌, ◌-◌, ◌*◌, ◌/◌, ◌≤◌, Bool, true, false, List, [], ◌∷◌, ◌++◌, length}
use Rattle.std.proofs.Common.{take, drop, map, Some, refl, sym, ap, subst, ◌∙◌, arith, append_assoc, length-append, length-drop}
use Rattle.std.specs.Prelude.{replicate, slice_index, option_map, option_and_then, sum_by, if◌then◌else◌}
use Rattle.std.specs.List.{range_with_len}
use Rattle.std.proofs.lemmas.List.{take_at, drop_at, length-take-le, length-replicate}
use Rattle.tb_machine_disk.specs.declared.names.Name.{Name}
use Rattle.tb_machine_disk.specs.declared.image.File.{File}
use Rattle.tb_machine_disk.specs.Images.{blocks_of, uses, IsDiskOf}
use Rattle.tb_machine_disk.specs.D64.{Found, Walk, walk, walk_from, chain, sectors, files_of, in_use, block, name_in, block_index, is_on_disk, map_bit, free_on}
use Rattle.tb_machine_disk.specs.Layout.{no_entry, head_block, title, free_map, laid_all, file_area, directory_of, directory_blocks, image_of, is_free}
use Rattle.tb_machine_disk.proofs.Chains.{Reads}
use Rattle.tb_machine_disk.proofs.Listing.{area_length}
use Rattle.tb_machine_disk.proofs.Reading.{Sizes, joined, reads_area, reads_head, reads_directory}
use Rattle.tb_machine_disk.proofs.Walking.{found_from, files_found, none_found, names_found, bytes_found, indices_found}
use Rattle.tb_machine_disk.proofs.Catalog.{ReadsDirectory, directory_chain, entries_there, directory_length, slots_front}
use Rattle.tb_machine_disk.proofs.Mapping.{times, all_used, uses_are, bits_are, counts_are, bit_tells, free_map_length}

title_length : (field : List ℕ) → length field ≡ 16 → length (title field) ≡ 112
title_length field e = omega (
  arith,
  length-append field (0xa0 ∷ 0xa0 ∷ 84 ∷ 66 ∷ 0xa0 ∷ 50 ∷ 65 ∷ 0xa0 ∷ 0xa0 ∷ 0xa0 ∷ 0xa0 ∷ replicate 85 0),
  e,
  length-replicate {A = ℕ} 85 0,
)

head_length : (used d : ℕ) (field : List ℕ) → length field ≡ 16 → length (head_block used d field) ≡ 256
unfolding head_block
head_length used d field e = omega (arith, length-append (free_map used d) (title field), free_map_length used d, title_length field e)

abbrev walk_of : List ℕ → List Found → Walk
walk_of directory files = record { directory = directory; files = files }

-- the walk of an image that was laid out
walked : (blocks : ℕ → List ℕ) (files : List File) (field : List ℕ) → length files ≤ 144 → sum_by blocks_of files ≤ 664
    → Reads blocks (file_area files) → ReadsDirectory blocks files
    → blocks 357 ≡ head_block (sum_by blocks_of files) (directory_blocks (length files)) field
    → walk blocks ≡ Some (walk_of (range_with_len 358 (directory_blocks (length files))) (found_from 0 files))
unfolding head_block
walked blocks files field few small reads reads_dir at_head =
    let n : ℕ = length files in
    let c : ℕ = (n - 1) / 8 in
    let d : ℕ = directory_blocks n in
    let more : c + 1 ≡ suc c = omega arith in
    let tail : List ℕ = replicate (256 * (664 - sum_by blocks_of files)) 0 in
    let start : drop (256 * 0) (file_area files) ≡ laid_all 0 files ++ tail = refl in
    let walks = directory_chain blocks files reads_dir few c 0 sectors (omega arith) (omega (arith, few)) in
    let there = entries_there blocks files reads_dir few d 0 (omega (arith, few)) in
    ap (λ b. option_and_then (walk_from blocks) (chain sectors blocks (slice_index b 0) (slice_index b 1))) at_head
    ∙ ap (option_and_then (walk_from blocks)) (walks ∙ ap (λ m. Some (range_with_len 358 m)) (sym more))
    ∙ ap (λ e. option_map (walk_of (range_with_len 358 d)) (files_of blocks e)) (there ∙ slots_front files few)
    ∙ ap (option_map (walk_of (range_with_len 358 d)))
    (files_found blocks (file_area files) tail reads n 0 0 files (map (no_entry n) (range_with_len n (8 * d - n))) (omega (arith, small)) start (none_found blocks n n (8 * d - n)))

title_read : (used d : ℕ) (field : List ℕ) → length field ≡ 16 → take 16 (drop 144 (head_block used d field)) ≡ field
unfolding head_block
title_read used d field e =
    ap (take 16) (drop_at (free_map used d) (title field) 140 (free_map_length used d))
    ∙ take_at field (0xa0 ∷ 0xa0 ∷ 84 ∷ 66 ∷ 0xa0 ∷ 50 ∷ 65 ∷ 0xa0 ∷ 0xa0 ∷ 0xa0 ∷ 0xa0 ∷ replicate 85 0) 16 e

mark_read : (used d : ℕ) (field : List ℕ) → length field ≡ 16
    → take 7 (drop 160 (head_block used d field)) ≡ 0xa0 ∷ 0xa0 ∷ 84 ∷ 66 ∷ 0xa0 ∷ 50 ∷ 65 ∷ []
unfolding head_block
mark_read used d field e =
    let behind : List ℕ = 0xa0 ∷ 0xa0 ∷ 84 ∷ 66 ∷ 0xa0 ∷ 50 ∷ 65 ∷ 0xa0 ∷ 0xa0 ∷ 0xa0 ∷ 0xa0 ∷ replicate 85 0 in
    let before : length (free_map used d ++ field) ≡ 156 = length-append (free_map used d) field ∙ omega (arith, free_map_length used d, e) in
    ap (λ x. take 7 (drop 156 x)) (sym (append_assoc (free_map used d) field behind))
    ∙ ap (take 7) (drop_at (free_map used d ++ field) behind 156 before)

format_read : (used d : ℕ) (field : List ℕ) → slice_index (head_block used d field) 2 ≡ 65
unfolding head_block
format_read used d field = refl

at_most_once : (b : Bool) (n : ℕ) → n ≡ (if b then 0 else 1) → n ≤ 1
at_most_once true n e = omega (arith, e)
at_most_once false n e = omega (arith, e)

joined_length : (area head directory : List ℕ) → Sizes area head directory → length (joined area head directory) ≡ 174848
joined_length area head directory s =
    let below : List ℕ = take 91392 area in
    let above : List ℕ = drop 91392 area in
    omega (
      arith,
      length-append (below ++ head ++ directory) above,
      length-append (below ++ head) directory,
      length-append below head,
      length-take-le 91392 area (let l = s.of_area in omega (arith, l)),
      length-drop 91392 area,
      s.of_area,
      s.of_head,
      s.of_directory,
    )

disk_of : (name : Name) (files : List File) → length files ≤ 144 → sum_by blocks_of files ≤ 664 → IsDiskOf name files (image_of name files)
disk_of name files few small =
    let used : ℕ = sum_by blocks_of files in
    let d : ℕ = directory_blocks (length files) in
    let few_blocks : d ≤ 18 = omega (arith, few) in
    let area : List ℕ = file_area files in
    let first : List ℕ = head_block used d name.field in
    let directory : List ℕ = directory_of files in
    let s : Sizes area first directory =
    record { of_area = area_length files small; of_head = head_length used d name.field name.full; of_directory = directory_length files few } in
    let image : List ℕ = image_of name files in
    let at_head : block image 357 ≡ first = reads_head area first directory s in
    let w : Walk = walk_of (range_with_len 358 d) (found_from 0 files) in
    let used_places : in_use w ≡ all_used used d = ap (λ x. 357 ∷ (range_with_len 358 d ++ x)) (indices_found 0 files) in
    let uses_is : (p : ℕ) → uses w p ≡ (if is_free used d p then 0 else 1) = λ p. ap (times p) used_places ∙ uses_are used d p few_blocks in
    record {
      fits = (small, few);
      size = joined_length area first directory s;
      walked = w;
      finds = walked (block image) files name.field few small (reads_area area first directory s)
          (record { at = λ j h. reads_directory area first directory j s h }) at_head;
      names = names_found 0 files;
      contents = bytes_found 0 files;
      mapped = record {
        once = λ p. at_most_once (is_free used d p) (uses w p) (uses_is p);
        bits = λ track sector l u h.
            ap (λ b. map_bit b track sector) at_head ∙ bits_are used d name.field track sector l u h ∙ bit_tells used d track sector few_blocks l u
            ∙ ap (λ x. if is_on_disk track sector then 1 - times (block_index track sector) x else 0) (sym used_places);
        counts = λ track l u.
            ap (λ b. free_on b track) at_head ∙ counts_are used d name.field track l u
            ∙ ap (λ b. sum_by (map_bit b track) (range_with_len 0 24)) (sym at_head);
      };
      format = ap (λ b. slice_index b 2) at_head ∙ format_read used d name.field;
      titled = ap (λ b. name_in (take 16 (drop 144 b))) at_head ∙ ap name_in (title_read used d name.field name.full);
      marked = ap (λ b. take 7 (drop 160 b)) at_head ∙ mark_read used d name.field name.full;
    }

-- the image that is laid out is that of a disk with the name and the files
pub whole : (name : Name) (files : List File) (image : List ℕ) → length files ≤ 144 → sum_by blocks_of files ≤ 664 → image ≡ image_of name files
    → IsDiskOf name files image
whole name files image few small e = subst (IsDiskOf name files) (sym e) (disk_of name files few small)
