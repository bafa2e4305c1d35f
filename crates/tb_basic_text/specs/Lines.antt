-- The lines of a file. A line ends at a byte 10, at a byte 13, at 13 and 10 together, or at the end of the file.
use Rattle.std.specs.Prelude.{ℕ, List, [], ◌∷◌, Bool, true, false, ◌==◌, ◌||◌, if◌then◌else◌}

-- one more byte at the front of the first line
abbrev pub longer : ℕ → List (List ℕ) → List (List ℕ)
longer b [] = (b ∷ []) ∷ []
longer b (line ∷ lines) = (b ∷ line) ∷ lines

-- The lines of what follows a byte 13, or another byte or none: after a 13 a byte 10 belongs to the
-- end of the line before.
unfoldable pub lines_from : (behind_13 : Bool) → List ℕ → List (List ℕ)
lines_from behind_13 [] = []
lines_from behind_13 (b ∷ bytes) =
    if b == 10 then (if behind_13 then lines_from false bytes else [] ∷ lines_from false bytes)
    else if b == 13 then [] ∷ lines_from true bytes
    else longer b (lines_from false bytes)

-- the lines of a whole file
abbrev pub lines_of_file : List ℕ → List (List ℕ)
lines_of_file bytes = lines_from false bytes

-- whether the text begins with a line's end
abbrev pub starts_with_end : List ℕ → Bool
starts_with_end [] = false
starts_with_end (b ∷ bytes) = (b == 10) || (b == 13)
