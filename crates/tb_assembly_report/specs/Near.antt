-- Names that are near a word.
use Rattle.std.specs.Prelude.{ℕ, nat_eq, nat_le, Bool, false, ◌==◌, Option, Some, None, List, [], length, map, find, if◌then◌else◌}
use Rattle.strsim.specs.Edits.{levenshtein_row}
use Rattle.tb_asm.specs.Names.{fold_byte}
use Rattle.tb_assembly_report.specs.Numbers.{LONGEST, LONG}

-- how many letters are changed, left out and added from a word to another one
abbrev pub edits : List ℕ → List ℕ → ℕ
edits word other = levenshtein_row nat_eq word other (length other)

-- whether a name has an ordinary length, and n edits lead from a word to it
abbrev pub is_near : ℕ → List ℕ → List ℕ → Bool
is_near count word name = if nat_le (length name) LONGEST then edits word name == count else false

-- one of some names, or another one of more edits
abbrev pub or_else : Option (List ℕ) → Option (List ℕ) → Option (List ℕ)
or_else (Some name) other = Some name
or_else None other = other

-- the first name one edit away from a word, or two if the word is long
abbrev pub nearest : List ℕ → List (List ℕ) → Option (List ℕ)
nearest word names =
    or_else (find (is_near 1 word) names) (if nat_le LONG (length word) then find (is_near 2 word) names else None)

-- the first name one or two edits away from a word, whose letters may be in either case; none if the word is too long
abbrev pub near_name : List ℕ → List (List ℕ) → Option (List ℕ)
near_name word names = if nat_le (length word) LONGEST then nearest (map fold_byte word) names else None
