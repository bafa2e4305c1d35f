-- The tidy text of a source: each line is made tidy where it stands, and line ends stay.
use Rattle.std.specs.Prelude.{◌≡◌, ◌≢◌, ◌⊎◌, ℕ, Bool, true, false, ◌&&◌, ◌==◌, if◌then◌else◌, List, [], ◌∷◌, ◌++◌, map}
use Rattle.tb_basic_text.specs.declared.notation.Notation.{Notation}
use Rattle.tb_parser.specs.Notations.{squeezed_in}
use Rattle.tb_parser.specs.Squeezed.{bytes}
use Rattle.tb_basic_text.specs.Lines.{lines_from}
use Rattle.tb_basic_format.specs.Lines.{IsTidied}

-- a byte that ends a line
abbrev pub IsEnd : ℕ → Type 0
IsEnd b = (b ≡ 10) ⊎ (b ≡ 13)

-- a byte within a line
abbrev pub IsWithin : ℕ → Type 0
IsWithin b = (b ≢ 10) × (b ≢ 13)

-- no byte of a line ends it
abbrev pub AreWithin : List ℕ → Type 0
AreWithin [] = Unit {0}
AreWithin (b ∷ line) = IsWithin b × AreWithin line

-- What stands for a line in the tidy text. A line of spaces stays where an empty one would be no line: between a 13 and
-- a 10, and at the end of the text.
abbrev pub placed : (is_bound : Bool) → List ℕ → List ℕ → List ℕ
placed is_bound line [] = if is_bound then line else []
placed is_bound line (b ∷ new) = b ∷ new

-- a text is followed by what stands for a line
abbrev pub Places : Notation → (is_bound : Bool) → List ℕ → List ℕ → List ℕ → Type 0
Places notation is_bound line old text = (new : List ℕ) × IsTidied notation line new × (text ≡ old ++ placed is_bound line new)

-- What follows a byte 13, or another byte or none, with each of its lines made tidy. A line's end stays; a 13 and a 10
-- together are two of these bytes, with an empty line between them.
pub data IsTidyText (notation : Notation) : (behind_13 : Bool) → List ℕ → List ℕ → Type 0 where
  last : (behind_13 : Bool) (line new : List ℕ) → AreWithin line → IsTidied notation line new
      → IsTidyText notation behind_13 line (placed true line new)
  next : (behind_13 : Bool) (line new : List ℕ) (ending : ℕ) (text result : List ℕ) → AreWithin line → IsEnd ending → IsTidied notation line new
      → IsTidyText notation (ending == 13) text result
      → IsTidyText notation behind_13 (line ++ ending ∷ text) (placed (behind_13 && (ending == 10)) line new ++ ending ∷ result)

-- what a line stands for, without its spaces and in upper case, outside texts and remarks
abbrev pub squeezed_bytes : Notation → List ℕ → List ℕ
squeezed_bytes notation line = bytes (squeezed_in notation line)

-- the lines of what follows a byte 13, or another byte or none, each squeezed
abbrev pub said_from : Notation → (behind_13 : Bool) → List ℕ → List (List ℕ)
said_from notation behind_13 text = map (squeezed_bytes notation) (lines_from behind_13 text)

-- the lines of a whole file, each squeezed
abbrev pub said : Notation → List ℕ → List (List ℕ)
said notation text = said_from notation false text

-- formatting twice is formatting once: a tidy text is its own tidy text
abbrev pub TidyTextsStay : Type 0
TidyTextsStay =
    (notation : Notation) (text tidy again : List ℕ) → IsTidyText notation false text tidy → IsTidyText notation false tidy again → again ≡ tidy
