-- Which two paths lead to one file.
use Rattle.std.specs.Prelude.{ℕ, List, [], ◌∷◌, ◌++◌, codes, Option, Some, None, option_map}
use Rattle.std.specs.List.{find}
use Rattle.tb_engine_files.specs.Places.{is_same}
use Rattle.tb_engine_files.specs.declared.places.Named.{Named}
use Rattle.tb_program_reasons.specs.declared.clashes.Clash.{Clash}

-- what is said of two paths
abbrev pub clash_text : List ℕ → List ℕ → List ℕ
clash_text path other = path ++ (codes ": the same file as " ++ other)

-- two paths
abbrev pub pair_of : Clash → List ℕ × List ℕ
pair_of c = (c.path.now, c.other.now)

abbrev pub path_of : Named → List ℕ
path_of n = n.path.now

-- a path with another one, or what comes later
abbrev pub with_other : Named → Option Named → Option (List ℕ × List ℕ) → Option (List ℕ × List ℕ)
with_other w (Some other) later = Some (w.path.now, other.path.now)
with_other w None later = later

-- the first file that may not be written: it is one of those that must be kept, or else one that is written later
abbrev pub first_clash : List Named → List Named → Option (List ℕ × List ℕ)
first_clash kept [] = None
first_clash kept (w ∷ ws) =
    with_other w (find (is_same w) kept) (with_other w (find (is_same w) ws) (first_clash kept ws))
