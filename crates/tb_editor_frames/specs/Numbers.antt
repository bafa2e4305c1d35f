-- The numbers that are promised, and that the code has the same ones.
use Rattle.std.specs.Prelude.{ℕ, ◌≡◌}
use Rattle.tb_editor_frames.specs.declared.lines.TheConstants as code_lines
use Rattle.tb_editor_frames.specs.declared.reading.TheConstants as code_reading

-- the most bytes of a line of a header, without its 10
abbrev pub MOST_LINE : ℕ
MOST_LINE = 256

-- the most lines of a header, the empty one counted
abbrev pub MOST_LINES : ℕ
MOST_LINES = 16

-- the most bytes of a content
abbrev pub MOST_CONTENT : ℕ
MOST_CONTENT = 8388608

-- the constants of the code are these numbers
abbrev pub ConstantsAreNumbers : Type 0
ConstantsAreNumbers =
    (code_lines.MOST_LINE ≡ MOST_LINE) × (code_reading.MOST_LINES ≡ MOST_LINES)
    × (code_reading.MOST_CONTENT ≡ MOST_CONTENT)
