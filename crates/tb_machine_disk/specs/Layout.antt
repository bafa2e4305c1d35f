-- How the maker lays a disk out: the blocks of the files lie in the order of indices, file after file, and leave out
-- track 18.
use Rattle.std.specs.Prelude.{ℕ, zero, suc, Bool, ◌==◌, ◌+◌, ◌-◌, ◌*◌, ◌/◌, ◌%◌, not, max, nat_le, nat_lt, List, [], ◌∷◌}
use Rattle.std.specs.Prelude.{◌++◌, flat_map, length, take, drop, replicate, sum_by, if◌then◌else◌}
use Rattle.std.specs.List.{range_with_len, concat}
use Rattle.tb_machine_disk.specs.D64.{sectors_on, block_index}
use Rattle.tb_machine_disk.specs.Images.{blocks_of}
use Rattle.tb_machine_disk.specs.declared.names.Name.{Name}
use Rattle.tb_machine_disk.specs.declared.image.File.{File}

-- the index of the k-th block for files, of 664
abbrev pub file_block : ℕ → ℕ
file_block k = if nat_lt k 357 then k else k + 19

-- the track and the sector of a block index
abbrev pub track_at : ℕ → ℕ
track_at p =
    if nat_lt p 357 then p / 21 + 1 else if nat_lt p 490 then (p - 357) / 19 + 18
    else if nat_lt p 598 then (p - 490) / 18 + 25 else (p - 598) / 17 + 31

abbrev pub sector_at : ℕ → ℕ
sector_at p =
    if nat_lt p 357 then p % 21 else if nat_lt p 490 then (p - 357) % 19
    else if nat_lt p 598 then (p - 490) % 18 else (p - 598) % 17

-- how many blocks follow the first one of a file
abbrev pub further : List ℕ → ℕ
further bytes = (length bytes - 1) / 254

-- a block: two bytes, at most 254 more, and zeros
abbrev pub filled : ℕ → ℕ → List ℕ → List ℕ
filled track sector bytes = track ∷ sector ∷ bytes ++ replicate (254 - length bytes) 0

-- the blocks of a file, the first of which is the k-th for files, with the given number of blocks after it
unfoldable pub laid : ℕ → ℕ → List ℕ → List ℕ
laid zero k bytes = filled 0 (length bytes + 1) bytes
laid (suc more) k bytes =
    filled (track_at (file_block (k + 1))) (sector_at (file_block (k + 1))) (take 254 bytes) ++ laid more (k + 1) (drop 254 bytes)

-- the blocks of all files
unfoldable pub laid_all : ℕ → List File → List ℕ
laid_all k [] = []
laid_all k (f ∷ fs) = laid (further f.bytes.now) k f.bytes.now ++ laid_all (k + blocks_of f) fs

-- how many blocks the directory of n files has
abbrev pub directory_blocks : ℕ → ℕ
directory_blocks n = (n - 1) / 8 + 1

-- the first two bytes of the k-th entry of n: in the first entry of a block in use the link to the next one, else zeros
abbrev pub prefix : ℕ → ℕ → List ℕ
prefix n k =
    if not (k % 8 == 0) then 0 ∷ 0 ∷ []
    else if nat_le (max n 1) k then 0 ∷ 0 ∷ []
    else if nat_lt (k + 8) n then 18 ∷ (k / 8 + 2) ∷ []
    else 0 ∷ 255 ∷ []

-- the other 30 bytes of a file's entry
abbrev pub entry : ℕ → File → List ℕ
entry k f =
    0x82 ∷ track_at (file_block k) ∷ sector_at (file_block k) ∷ f.name.field
    ++ replicate 9 0 ++ (blocks_of f % 256) ∷ (blocks_of f / 256) ∷ []

-- the entries of files from the i-th on
unfoldable pub entries : ℕ → ℕ → ℕ → List File → List (List ℕ)
entries n i k [] = []
entries n i k (f ∷ fs) = (prefix n i ++ entry k f) ∷ entries n (i + 1) (k + blocks_of f) fs

-- an entry of no file
abbrev pub no_entry : ℕ → ℕ → List ℕ
no_entry n i = prefix n i ++ replicate 30 0

-- whether a block is free: it is after those of the directory, or after those of the files
abbrev pub is_free : ℕ → ℕ → ℕ → Bool
is_free used directory p =
    if nat_lt p 357 then nat_le used p else if nat_le p 375 then nat_lt (357 + directory) p else nat_le (used + 19) p

-- the bit of a sector of a track
abbrev pub free_bit : ℕ → ℕ → ℕ → ℕ → ℕ
free_bit used directory track sector =
    if nat_lt sector (sectors_on track) then (if is_free used directory (block_index track sector) then 1 else 0) else 0

-- eight bits as a byte, from a sector on
unfoldable pub bits_from : ℕ → ℕ → ℕ → ℕ → ℕ
bits_from used directory track s =
    let bit = free_bit used directory track in
    bit s + 2 * bit (s + 1) + 4 * bit (s + 2) + 8 * bit (s + 3)
    + 16 * bit (s + 4) + 32 * bit (s + 5) + 64 * bit (s + 6) + 128 * bit (s + 7)

-- the number of those bits that are set
unfoldable pub ones_from : ℕ → ℕ → ℕ → ℕ → ℕ
ones_from used directory track s =
    let bit = free_bit used directory track in
    bit s + bit (s + 1) + bit (s + 2) + bit (s + 3) + bit (s + 4) + bit (s + 5) + bit (s + 6) + bit (s + 7)

-- a track's four bytes of the map
abbrev pub track_map : ℕ → ℕ → ℕ → List ℕ
track_map used directory track =
    (ones_from used directory track 0 + ones_from used directory track 8 + ones_from used directory track 16)
    ∷ bits_from used directory track 0 ∷ bits_from used directory track 8 ∷ bits_from used directory track 16 ∷ []

-- the map of free blocks
abbrev pub free_map : ℕ → ℕ → List ℕ
free_map used directory = flat_map (track_map used directory) (range_with_len 1 35)

-- what follows the map: the disk's name, its mark `TB` and `2A`
abbrev pub title : List ℕ → List ℕ
title field =
    field ++ 0xa0 ∷ 0xa0 ∷ 84 ∷ 66 ∷ 0xa0 ∷ 50 ∷ 65 ∷ 0xa0 ∷ 0xa0 ∷ 0xa0 ∷ 0xa0 ∷ replicate 85 0

-- the head: the directory's first block, the format `A`, the map and the title
unfoldable pub head_block : ℕ → ℕ → List ℕ → List ℕ
head_block used directory field = 18 ∷ 1 ∷ 65 ∷ 0 ∷ (free_map used directory ++ title field)

-- the entries of the directory of files
abbrev pub directory_of : List File → List ℕ
directory_of files =
    let n = length files in concat (entries n 0 0 files) ++ flat_map (no_entry n) (range_with_len n (144 - n))

-- all 664 blocks for files
abbrev pub file_area : List File → List ℕ
file_area files = laid_all 0 files ++ replicate (256 * (664 - sum_by blocks_of files)) 0

-- the blocks for files below track 18, that track, and those above it
abbrev pub image_of : Name → List File → List ℕ
image_of name files =
    take 91392 (file_area files)
    ++ head_block (sum_by blocks_of files) (directory_blocks (length files)) name.field
    ++ directory_of files
    ++ drop 91392 (file_area files)
