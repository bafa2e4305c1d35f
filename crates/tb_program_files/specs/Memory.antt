-- What the work of a disk has in memory, before anything is written.
use Rattle.std.specs.Prelude.{◌≡◌, ℕ, List, [], ◌∷◌, ◌++◌, Contains}
use Rattle.tb_engine_disk.specs.Files.{Entry}
use Rattle.tb_program_files.specs.Texts.{IsEntry, names_of}

-- one more file of a disk stands behind others, none of which has its name
abbrev pub Joins : List Entry → List ℕ → List ℕ → List Entry → Type 0
Joins es path bytes new = (e : Entry) × IsEntry path bytes e × (¬ Contains (names_of es) e.0) × (new ≡ es ++ e ∷ [])
