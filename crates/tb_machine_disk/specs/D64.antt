-- The D64 format: a disk of 35 tracks, sector after sector, of 256 bytes each; its directory, and how files are read.
use Rattle.std.specs.Prelude.{ℕ, zero, suc, Bool, ◌==◌, ◌+◌, ◌-◌, ◌*◌, ◌/◌, ◌%◌, ◌^◌, ◌&&◌, nat_le, nat_lt, List, []}
use Rattle.std.specs.Prelude.{◌∷◌, ◌++◌, map, flat_map, length, take, drop, slice_index, Option, None, Some, option_map, option_and_then}
use Rattle.std.specs.Prelude.{if◌then◌else◌}
use Rattle.std.specs.List.{range_with_len, before_first}

-- how many sectors a track has
abbrev pub sectors_on : ℕ → ℕ
sectors_on track =
    if nat_le track 17 then 21 else if nat_le track 24 then 19 else if nat_le track 30 then 18 else 17

-- whether the disk has a track, counted from 1, and a sector, counted from 0
abbrev pub is_on_disk : ℕ → ℕ → Bool
is_on_disk track sector = nat_le 1 track && nat_le track 35 && nat_lt sector (sectors_on track)

-- the index of a sector in the image: the number of sectors before it
abbrev pub block_index : ℕ → ℕ → ℕ
block_index track sector =
    if nat_le track 17 then 21 * (track - 1) + sector
    else if nat_le track 24 then 357 + 19 * (track - 18) + sector
    else if nat_le track 30 then 490 + 18 * (track - 25) + sector
    else 598 + 17 * (track - 31) + sector

-- the number of sectors
abbrev pub sectors : ℕ
sectors = 683

-- the index of track 18, sector 0, which has the map of free blocks and the disk's name
abbrev pub head : ℕ
head = 357

-- the 256 bytes of the block with an index
abbrev pub block : List ℕ → ℕ → List ℕ
block image p = take 256 (drop (256 * p) image)

-- the indices of the chain of blocks from a sector on, at most the given number; None if it is longer or off the disk.
-- A block begins with the track and the sector of the next one, the last with track 0
unfoldable pub chain : ℕ → (ℕ → List ℕ) → ℕ → ℕ → Option (List ℕ)
chain zero blocks track sector = None
chain (suc most) blocks track sector =
    let p = block_index track sector in
    let rest = option_map (λ ps. p ∷ ps) (chain most blocks (slice_index (blocks p) 0) (slice_index (blocks p) 1)) in
    if is_on_disk track sector then (if slice_index (blocks p) 0 == 0 then Some (p ∷ []) else rest) else None

-- the file's bytes in a block; the second byte of the last block is the index of the file's last byte
abbrev pub data_in : List ℕ → List ℕ
data_in b = if slice_index b 0 == 0 then take (slice_index b 1 - 1) (drop 2 b) else drop 2 b

-- the name in a field that is filled up with $A0
abbrev pub name_in : List ℕ → List ℕ
name_in field = before_first (λ c. c == 0xa0) field

-- a file as the directory names it, and the indices of its blocks
pub record Found : Type 0 where
  pub name : List ℕ
  pub bytes : List ℕ
  pub blocks_used : List ℕ

-- the eight entries of a block of the directory
abbrev pub entries_in : List ℕ → List (List ℕ)
entries_in b = map (λ i. take 32 (drop (32 * i) b)) (range_with_len 0 8)

-- the file of an entry's chain, if the entry's number of blocks is right
abbrev pub found : (ℕ → List ℕ) → List ℕ → List ℕ → Option Found
found blocks entry blocks_used =
    let name = name_in (take 16 (drop 5 entry)) in
    let bytes = flat_map (λ p. data_in (blocks p)) blocks_used in
    let count = slice_index entry 30 + 256 * slice_index entry 31 in
    if count == length blocks_used then Some (record { name = name; bytes = bytes; blocks_used = blocks_used }) else None

-- the file of an entry: a program ($82) with the track and the sector of its first block
unfoldable pub file_of : (ℕ → List ℕ) → List ℕ → Option Found
file_of blocks entry =
    let blocks_used = chain sectors blocks (slice_index entry 3) (slice_index entry 4) in
    if slice_index entry 2 == 0x82 then option_and_then (found blocks entry) blocks_used else None

-- the files of entries, without those of type 0; `None` if one can't be read
unfoldable pub files_of : (ℕ → List ℕ) → List (List ℕ) → Option (List Found)
files_of blocks [] = Some []
files_of blocks (entry ∷ entries) =
    if slice_index entry 2 == 0 then files_of blocks entries
    else option_and_then (λ file. option_map (λ files. file ∷ files) (files_of blocks entries)) (file_of blocks entry)

-- what a walk of a disk finds: the indices of the directory's blocks, and the files in order
pub record Walk : Type 0 where
  pub directory : List ℕ
  pub files : List Found

abbrev pub walk_from : (ℕ → List ℕ) → List ℕ → Option Walk
walk_from blocks directory =
    option_map (λ files. record { directory = directory; files = files })
    (files_of blocks (flat_map (λ p. entries_in (blocks p)) directory))

-- the walk of the directory, whose first block the head names, and of each file's chain
abbrev pub walk : (ℕ → List ℕ) → Option Walk
walk blocks =
    option_and_then (walk_from blocks) (chain sectors blocks (slice_index (blocks head) 0) (slice_index (blocks head) 1))

-- the indices of all blocks in use, as often as they are used
abbrev pub in_use : Walk → List ℕ
in_use w = head ∷ w.directory ++ flat_map (λ f. f.blocks_used) w.files

-- the bit of a sector in the head's map, 1 for a free block: four bytes a track, a count and then the bits, the lowest
-- first
abbrev pub map_bit : List ℕ → ℕ → ℕ → ℕ
map_bit b track sector = slice_index b (4 * track + 1 + sector / 8) / 2 ^ (sector % 8) % 2

-- how many blocks of a track are free
abbrev pub free_on : List ℕ → ℕ → ℕ
free_on b track = slice_index b (4 * track)
