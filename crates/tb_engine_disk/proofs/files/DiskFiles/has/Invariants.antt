-- What holds at each turn of the loop of `DiskFiles::has` in src/files.rt.
use Rattle.std.proofs.Common.{◌≡◌, ℕ, ◌<◌, get_or}
use Rattle.tb_engine_disk.specs.declared.files.Taken.{Taken}
use Rattle.tb_engine_disk.proofs.files.DiskFiles.has.Given as goal

abbrev pub invariant-loop-file : goal.invariant-loop-file
invariant-loop-file l = (k : ℕ) (d : Taken) → k < l.file-index → (get_or l.self.files.items k d).name.field ≡ l.name.field → ⊥
