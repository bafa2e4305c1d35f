-- What the ending of a path says.
use Rattle.std.specs.Prelude.{◌≡◌, ◌≢◌, ◌⊎◌, ℕ, ◌-◌, Bool, ◌||◌, List, ◌++◌, map, drop, length, codes, MatchBool}
use Rattle.std.specs.Char.{to_ascii_lowercase}
use Rattle.std.specs.Str.{bytes_eq}

-- a path ends in these bytes, in either case
abbrev pub ends_as : List ℕ → List ℕ → Bool
ends_as path ending = bytes_eq (map to_ascii_lowercase (drop (length path - length ending) path)) (map to_ascii_lowercase ending)

-- the ending of a source that a build's PRG file is named by
abbrev pub source_ending : List ℕ
source_ending = codes ".bas"

-- a path ends as that of a source
abbrev pub is_source_name : List ℕ → Bool
is_source_name path = ends_as path source_ending || ends_as path (codes ".tbas")

-- a path ends as that of a text for assemblers
abbrev pub is_assembler_name : List ℕ → Bool
is_assembler_name path = ends_as path (codes ".asm") || (ends_as path (codes ".inc") || (ends_as path (codes ".a65") || ends_as path (codes ".s")))

-- the ending of a disk image
abbrev pub image_ending : List ℕ
image_ending = codes ".d64"

-- the ending of a PRG file
abbrev pub prg_ending : List ℕ
prg_ending = codes ".prg"

-- the path of a source's PRG file: `.prg` stands in place of the `.bas` at its end, or behind all of it
abbrev pub NamesPrg : List ℕ → List ℕ → Type 0
NamesPrg source name =
    ((stem : List ℕ) × (source ≡ stem ++ source_ending) × (name ≡ stem ++ prg_ending))
    ⊎ (((stem : List ℕ) → source ≢ stem ++ source_ending) × (name ≡ source ++ prg_ending))

-- the path that stands for standard input or output
abbrev pub standard : List ℕ
standard = codes "-"

-- the path of what a build writes if the words don't say
abbrev pub IsUsualOut : List ℕ → List ℕ → Type 0
IsUsualOut source out = MatchBool (bytes_eq source standard) (out ≡ standard) (NamesPrg source out)
