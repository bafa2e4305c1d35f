-- The lines of a header, and what they say.
use Rattle.std.specs.Prelude.{ℕ, ◌≡◌, ◌≢◌, ◌==◌, ◌≤◌, ◌<◌, List, [], ◌∷◌, ◌++◌, codes, flat_map, length, Option, Some, None, if◌then◌else◌}
use Rattle.std.specs.Char.{to_ascii_lowercase}
use Rattle.tb_debug_commands.specs.Parts.{number_of}
use Rattle.tb_engine_streams.specs.Lines.{IsLine, without_return}
use Rattle.tb_editor_frames.specs.declared.header.Field.{Field}
use Rattle.tb_editor_frames.specs.declared.header.Field.TheVariants.{Length, BadLength, Other}
use Rattle.tb_editor_frames.specs.Numbers.{MOST_LINE}
use Rattle.tb_editor_frames.specs.Numbers.{MOST_LINES}

-- what stands before the number, in small letters
abbrev pub name : List ℕ
name = codes "content-length:"

-- a text without the spaces before it
abbrev pub behind_spaces : List ℕ → List ℕ
behind_spaces [] = []
behind_spaces (b ∷ text) = if b == 32 then behind_spaces text else b ∷ text

-- a length that is spelled or not
abbrev pub length_of : Option ℕ → Field
length_of (Some n) = Length n
length_of None = BadLength

-- what stands behind a name, where a line begins with it in either case
abbrev pub behind : List ℕ → List ℕ → Option (List ℕ)
behind [] line = Some line
behind (n ∷ ns) [] = None
behind (n ∷ ns) (b ∷ bs) = if to_ascii_lowercase b == n then behind ns bs else None

-- what a value says
abbrev pub value_of : Option (List ℕ) → Field
value_of (Some value) = length_of (number_of 18 (behind_spaces value))
value_of None = Other

-- what a line says
abbrev pub field_of : List ℕ → Field
field_of line = value_of (behind name line)

-- the length after one more line: the last line that says one
abbrev pub said : Field → Option ℕ → Option ℕ
said (Length n) found = Some n
said BadLength found = found
said Other found = found

-- the length that lines say, after one that was found
abbrev pub length_in : Option ℕ → List (List ℕ) → Option ℕ
length_in found [] = found
length_in found (line ∷ lines) = length_in (said (field_of (without_return line)) found) lines

-- a line that is short enough
abbrev pub IsShort : List ℕ → Type 0
IsShort line = IsLine line × (length line ≤ MOST_LINE)

-- the last line of a header: an empty one
abbrev pub IsLast : List ℕ → Type 0
IsLast line = IsShort line × (without_return line ≡ [])

-- any other line of a header
abbrev pub IsField : List ℕ → Type 0
IsField line = IsShort line × (without_return line ≢ []) × (field_of (without_return line) ≢ BadLength)

-- lines of a header before the last one
abbrev pub AreFields : List (List ℕ) → Type 0
AreFields [] = Unit {0}
AreFields (line ∷ lines) = IsField line × AreFields lines

-- the bytes of lines
abbrev pub joined : List (List ℕ) → List ℕ
joined lines = flat_map (λ line. line ++ 10 ∷ []) lines

-- a header: lines that say a length, and an empty one
pub record IsHeader (bytes : List ℕ) (n : ℕ) : Type 0 where
  pub fields : List (List ℕ)
  pub last : List ℕ
  pub all : bytes ≡ joined (fields ++ last ∷ [])
  pub are : AreFields fields
  pub ends : IsLast last
  pub few : length fields < MOST_LINES
  pub says : length_in None fields ≡ Some n

-- bytes that begin no header, whatever stands behind them: a line that is too long, a length that is no number, no length,
-- or too many lines
pub data BeginsNoHeader : List ℕ → Type 0 where
  long : (fields : List (List ℕ)) (part : List ℕ) → AreFields fields → IsLine part → MOST_LINE < length part → BeginsNoHeader (joined fields ++ part)
  bad_length : (fields : List (List ℕ)) (line : List ℕ) → AreFields fields → IsShort line → field_of (without_return line) ≡ BadLength
      → BeginsNoHeader (joined (fields ++ line ∷ []))
  no_length : (fields : List (List ℕ)) (last : List ℕ) → AreFields fields → IsLast last → length_in None fields ≡ None
      → BeginsNoHeader (joined (fields ++ last ∷ []))
  many : (fields : List (List ℕ)) → AreFields fields → length fields ≡ MOST_LINES → BeginsNoHeader (joined fields)

-- some of a header, at least a byte, and not all of it
pub record IsPartOfHeader (bytes : List ℕ) : Type 0 where
  pub fields : List (List ℕ)
  pub part : List ℕ
  pub all : bytes ≡ joined fields ++ part
  pub are : AreFields fields
  pub line : IsLine part
  pub some : 0 < length bytes
