-- What holds at each turn of the loop of `is_in_ram` in src/files.rt.
use Rattle.std.proofs.Common.{◌≡◌, ℕ, ◌<◌, ◌+◌, true}
use Rattle.tb_memmap.specs.Regions.{is_open}
use Rattle.tb_engine_disk.proofs.files.is_in_ram.Given as goal

abbrev pub invariant-loop-k : goal.invariant-loop-k
invariant-loop-k l = (k : ℕ) → k < l.k → is_open (l.at + k) ≡ true
