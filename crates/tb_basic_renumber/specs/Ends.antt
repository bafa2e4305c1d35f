-- The ends of the lines of a text.
use Rattle.std.specs.Prelude.{ℕ, ◌≡◌, Bool, true, false, ◌==◌, List, [], ◌∷◌, if◌then◌else◌}
use Rattle.tb_basic_text.specs.Lines.{lines_from}

-- a byte 10 at the front of a text
abbrev pub feed : List ℕ → List ℕ
feed [] = []
feed (b ∷ bytes) = if b == 10 then 10 ∷ [] else []

-- the ends of a text with one more byte at the front of its first line: a last line may have none
abbrev pub lengthened : List (List ℕ) → List (List ℕ)
lengthened [] = [] ∷ []
lengthened (e ∷ es) = e ∷ es

-- The ends of the lines of what follows a byte 13, or another byte or none: 10, 13, or 13 and 10.
unfoldable pub ends_from : (behind_13 : Bool) → List ℕ → List (List ℕ)
ends_from behind_13 [] = []
ends_from behind_13 (b ∷ bytes) =
    if b == 10 then (if behind_13 then ends_from false bytes else (10 ∷ []) ∷ ends_from false bytes)
    else if b == 13 then (13 ∷ feed bytes) ∷ ends_from true bytes
    else lengthened (ends_from false bytes)

-- the ends of the lines of a whole text
abbrev pub ends_of : List ℕ → List (List ℕ)
ends_of text = ends_from false text

-- a text goes on so behind its first line
abbrev pub IsBehind : List ℕ → List ℕ → Type 0
IsBehind text behind = (line : List ℕ) × (lines_from false text ≡ line ∷ lines_from false behind)
