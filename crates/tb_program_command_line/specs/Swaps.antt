-- Words that are a name but for two neighbours that changed places.
use Rattle.std.specs.Prelude.{Bool, ◌&&◌, ◌==◌, List, [], ◌∷◌, ℕ, nat_eq, Option, Some, None, length, if◌then◌else◌}
use Rattle.std.specs.Str.{chars}
use Rattle.strsim.specs.Edits.{levenshtein_row, osa_table}

-- whether a word is a name but for that: one exchange of neighbours, or two changes without one
abbrev pub is_swapped : List ℕ → List ℕ → Bool
is_swapped word name =
    ((osa_table (chars word) (chars name)).last_row (length (chars name)) == 1)
    && (levenshtein_row nat_eq (chars word) (chars name) (length (chars name)) == 2)

-- the first of some names that a word is but for that
abbrev pub first_swapped : List ℕ → List (List ℕ) → Option (List ℕ)
first_swapped word [] = None
first_swapped word (name ∷ names) = if is_swapped word name then Some name else first_swapped word names
