-- Which files are programs that belong on a disk.
use Rattle.std.specs.Prelude.{◌≡◌, ◌⊎◌, ℕ, true, false, List, length, Result, Ok, Err}
use Rattle.std.specs.List.{list_all}
use Rattle.tb_memmap.specs.Regions.{BASIC_START}
use Rattle.tb_memmap.specs.Bytes.{IsOpenRange}
use Rattle.tb_engine_files.specs.Looks.{is_text_byte}
use Rattle.tb_prg.specs.Prg.{content_of}
use Rattle.tb_engine_disk.specs.declared.outcome.DiskRefusal.{DiskRefusal}
use Rattle.tb_engine_disk.specs.declared.outcome.DiskRefusal.TheVariants.{BadName, NameTwice, Prg, Text, NotRam, Full}

-- bytes at an address have the BASIC line's place, or all lie in RAM
abbrev pub IsPlaced : ℕ → ℕ → Type 0
IsPlaced at count = (at ≡ BASIC_START) ⊎ IsOpenRange at count

-- whether a file belongs on a disk, with what is wrong if it doesn't: no PRG file, a text, or a program that can't be loaded
abbrev pub Judges : List ℕ → Result Unit DiskRefusal → Type 0
Judges file (Ok u) =
    (at : ℕ) × (bytes : List ℕ) × (content_of file ≡ Ok (at, bytes)) × (list_all is_text_byte file ≡ false) × IsPlaced at (length bytes)
Judges file (Err (Prg e)) = content_of file ≡ Err e
Judges file (Err Text) = (at : ℕ) × (bytes : List ℕ) × (content_of file ≡ Ok (at, bytes)) × (list_all is_text_byte file ≡ true)
Judges file (Err NotRam) =
    (at : ℕ) × (bytes : List ℕ) × (content_of file ≡ Ok (at, bytes)) × (list_all is_text_byte file ≡ false) × ¬ (IsPlaced at (length bytes))
Judges file (Err BadName) = ⊥
Judges file (Err NameTwice) = ⊥
Judges file (Err Full) = ⊥
