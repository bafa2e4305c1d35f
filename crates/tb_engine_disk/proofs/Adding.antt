-- Files that are not taken in.
use Rattle.std.proofs.Common.{ℕ, List, Err}
use Rattle.tb_machine_disk.specs.declared.names.Name.{Name}
use Rattle.tb_engine_disk.specs.declared.files.DiskFiles.{DiskFiles}
use Rattle.tb_engine_streams.specs.declared.outcome.Outcome.TheVariants.{Refused}
use Rattle.tb_engine_disk.specs.declared.outcome.DiskRefusal.{DiskRefusal}
use Rattle.tb_engine_disk.specs.declared.outcome.DiskRefusal.TheVariants.{BadName, NameTwice, Prg, Text, NotRam, Full}
use Rattle.tb_engine_disk.specs.Files.{Adds, IsUsed}
use Rattle.tb_engine_disk.specs.Programs.{Judges}

-- a refusal of a file's bytes is one of taking them in, under a name that no file has
pub refused : (d : DiskFiles) (name : Name) (bytes : List ℕ) (why : DiskRefusal)
    → ¬ (IsUsed d name.field) → Judges bytes (Err why) → Adds d name bytes (Err (Refused why))
refused d name bytes (Prg e) free is = (free, is)
refused d name bytes Text free is = (free, is)
refused d name bytes NotRam free is = (free, is)
refused d name bytes BadName free is = (free, is)
refused d name bytes NameTwice free is = absurd is
refused d name bytes Full free is = (free, is)
