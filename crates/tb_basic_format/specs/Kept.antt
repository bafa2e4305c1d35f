-- A line without the spaces that mean nothing, and in upper case, but with its texts and its remark as they stand.
use Rattle.std.specs.Prelude.{ℕ, List, [], ◌∷◌, Bool, true, false, ◌==◌, ◌&&◌, if◌then◌else◌}
use Rattle.tb_parser.specs.Squeezed.{upper}
use Rattle.tb_basic_format.specs.declared.modes.Mode.{Mode}
use Rattle.tb_basic_format.specs.declared.modes.Mode.TheVariants.{Code, CodeR, CodeRe, Text, Remark}

-- in code: a space changes nothing, and a quote, 34, begins a text
abbrev pub after_code : Mode → ℕ → Mode → Mode
after_code m b otherwise = if b == 32 then m else if b == 34 then Text else otherwise

-- the mode after a byte, as the parser has it: the first R, E and M that follow each other in code begin the remark
abbrev pub after : Mode → ℕ → Mode
after Code b = after_code Code b (if upper b == 82 then CodeR else Code)
after CodeR b = after_code CodeR b (if upper b == 69 then CodeRe else if upper b == 82 then CodeR else Code)
after CodeRe b = after_code CodeRe b (if upper b == 77 then Remark else if upper b == 82 then CodeR else Code)
after Text b = if b == 34 then Code else Text
after Remark b = Remark

-- whether a mode is outside texts and remarks
abbrev pub is_in_code : Mode → Bool
is_in_code Code = true
is_in_code CodeR = true
is_in_code CodeRe = true
is_in_code Text = false
is_in_code Remark = false

-- whether a byte is a space outside texts and remarks
abbrev pub is_dropped : Mode → ℕ → Bool
is_dropped m b = (b == 32) && is_in_code m

-- a byte as it is written: outside texts and remarks in upper case
abbrev pub written : Mode → ℕ → ℕ
written m b = if is_in_code m then upper b else b

-- the bytes that are kept of a line, without spaces outside texts and remarks
unfoldable pub kept_from : Mode → List ℕ → List ℕ
kept_from m [] = []
kept_from m (b ∷ line) = if is_dropped m b then kept_from (after m b) line else written m b ∷ kept_from (after m b) line

-- the bytes that are kept of a whole line
abbrev pub kept : List ℕ → List ℕ
kept line = kept_from Code line
