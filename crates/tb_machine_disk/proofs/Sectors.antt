-- The indices of the blocks for files.
use Rattle.std.proofs.Common.{◌≡◌, ℕ, ◌==◌, ◌<◌, true, false, refl, arith}
use Rattle.std.proofs.lemmas.Bool.{agree_below_at, eqb-true}
use Rattle.std.proofs.lemmas.Bool.Decides.{nat_tests}
use Rattle.tb_machine_disk.specs.D64.{block_index, is_on_disk}
use Rattle.tb_machine_disk.specs.Layout.{file_block, track_at, sector_at}

-- the track and the sector of a block index have that index
pub index_back : (p : ℕ) → p < 683 → block_index (track_at p) (sector_at p) ≡ p
index_back p h = eqb-true _ _ (agree_below_at (λ p. block_index (track_at p) (sector_at p) == p) (λ p. true) 683 p refl h)

-- the track and the sector of a block index are on the disk
pub on_disk : (p : ℕ) → p < 683 → is_on_disk (track_at p) (sector_at p) ≡ true
on_disk p h = agree_below_at (λ p. is_on_disk (track_at p) (sector_at p)) (λ p. true) 683 p refl h

-- the track of a block index is not 0
pub some_track : (p : ℕ) → p < 683 → (track_at p == 0) ≡ false
some_track p h = agree_below_at (λ p. track_at p == 0) (λ p. false) 683 p refl h

-- the blocks for files are on the disk
pub index_within : (k : ℕ) → k < 664 → file_block k < 683
index_within k h = grind (arith, nat_tests)
