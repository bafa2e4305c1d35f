-- What the image of a disk with files is.
use Rattle.std.specs.Prelude.{ℕ, ◌≡◌, ◌<◌, ◌≤◌, ◌-◌, ◌+◌, ◌*◌, ◌/◌, ◌==◌, List, [], ◌∷◌, map, length, take, drop}
use Rattle.std.specs.Prelude.{slice_index, sum_by, count_by, Some, if◌then◌else◌}
use Rattle.std.specs.List.{range_with_len}
use Rattle.tb_machine_disk.specs.D64.{Walk, walk, block, head, sectors, in_use, map_bit, free_on, name_in, is_on_disk, block_index}
use Rattle.tb_machine_disk.specs.declared.names.Name.{Name}
use Rattle.tb_machine_disk.specs.declared.image.File.{File}
use Rattle.tb_machine_disk.specs.declared.image.DiskError.{DiskError}
use Rattle.tb_machine_disk.specs.declared.image.DiskError.TheVariants.{Full, NoMemory}

-- the text of a name
abbrev pub text_of : Name → List ℕ
text_of n = name_in n.field

-- the number of blocks of 254 bytes that a file takes, at least one
abbrev pub blocks_of : File → ℕ
blocks_of f = (length f.bytes.now - 1) / 254 + 1

-- how often a block is in use, by its index
abbrev pub uses : Walk → ℕ → ℕ
uses w p = count_by (λ q. q == p) (in_use w)

-- no block is used twice, and the map of free blocks is right: a sector's bit is 1 if it is not in use, 0 if it is
-- or if the track has no such sector; and a track's count is the sum of its bits
pub record IsMapped (image : List ℕ) (w : Walk) : Type 0 where
  pub once : (p : ℕ) → uses w p ≤ 1
  pub bits : (track sector : ℕ) → 1 ≤ track → track ≤ 35 → sector < 24
      → map_bit (block image head) track sector ≡ (if is_on_disk track sector then 1 - uses w (block_index track sector) else 0)
  pub counts : (track : ℕ) → 1 ≤ track → track ≤ 35
      → free_on (block image head) track ≡ sum_by (map_bit (block image head) track) (range_with_len 0 24)

-- files that fit on a disk: at most 664 blocks, and at most 144 files
abbrev pub Fits : List File → Type 0
Fits files = (sum_by blocks_of files ≤ 664) × (length files ≤ 144)

-- the image of a disk with a name and files: walking it finds exactly the files, in order; its map is right, its format
-- is `A`, and after its name comes the mark `TB`, `2A`
pub record IsDiskOf (name : Name) (files : List File) (image : List ℕ) : Type 0 where
  pub fits : Fits files
  pub size : length image ≡ 256 * sectors
  pub walked : Walk
  pub finds : walk (block image) ≡ Some walked
  pub names : map (λ f. f.name) walked.files ≡ map (λ f. text_of f.name) files
  pub contents : map (λ f. f.bytes) walked.files ≡ map (λ f. f.bytes.now) files
  pub mapped : IsMapped image walked
  pub format : slice_index (block image head) 2 ≡ 65
  pub titled : name_in (take 16 (drop 144 (block image head))) ≡ text_of name
  pub marked : take 7 (drop 160 (block image head)) ≡ 0xa0 ∷ 0xa0 ∷ 84 ∷ 66 ∷ 0xa0 ∷ 50 ∷ 65 ∷ []

-- why there is no image
abbrev pub Refuses : List File → DiskError → Type 0
Refuses files Full = ¬ (Fits files)
Refuses files NoMemory = Fits files
