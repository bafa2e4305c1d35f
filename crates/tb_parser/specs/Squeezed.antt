-- A line without its spaces and in upper case, outside texts and remarks.
use Rattle.std.specs.Prelude.{ℕ, ◌+◌, ◌-◌, List, [], ◌∷◌, Bool, true, false, map, nat_le, ◌==◌, ◌&&◌, if◌then◌else◌}
use Rattle.tb_parser.specs.declared.squeeze.Mode.{Mode}
use Rattle.tb_parser.specs.declared.squeeze.Mode.TheVariants.{Code, CodeR, CodeRe, Text, Remark}
use Rattle.tb_parser.specs.declared.squeeze.Placed.{Placed}

-- a letter in upper case
abbrev pub upper : ℕ → ℕ
upper b = if nat_le 97 b && nat_le b 122 then b - 32 else b

-- in code: a space changes nothing, and a quote, 34, begins a text
abbrev pub after_code : Mode → ℕ → Mode → Mode
after_code m b otherwise = if b == 32 then m else if b == 34 then Text else otherwise

-- The mode after a byte. The first R, E and M, 82, 69 and 77, that follow each other in code begin the remark, which
-- continues to the line's end, as does a text without its second quote.
abbrev pub after : Mode → ℕ → Mode
after Code b = after_code Code b (if upper b == 82 then CodeR else Code)
after CodeR b = after_code CodeR b (if upper b == 69 then CodeRe else if upper b == 82 then CodeR else Code)
after CodeRe b = after_code CodeRe b (if upper b == 77 then Remark else if upper b == 82 then CodeR else Code)
after Text b = if b == 34 then Code else Text
after Remark b = Remark

-- whether a mode is outside texts and remarks
abbrev pub is_in_code : Mode → Bool
is_in_code Code = true
is_in_code CodeR = true
is_in_code CodeRe = true
is_in_code Text = false
is_in_code Remark = false

-- whether a byte is a space outside texts and remarks
abbrev pub is_dropped : Mode → ℕ → Bool
is_dropped m b = (b == 32) && is_in_code m

-- a byte as it is kept: in upper case, but unchanged in a remark
abbrev pub shown : Mode → ℕ → ℕ
shown Code b = upper b
shown CodeR b = upper b
shown CodeRe b = upper b
shown Text b = upper b
shown Remark b = b

-- the bytes that are left, each with its column in the line and whether it is in code
unfoldable pub squeezed_from : Mode → ℕ → List ℕ → List Placed
squeezed_from m column [] = []
squeezed_from m column (b ∷ line) =
    if is_dropped m b then squeezed_from (after m b) (column + 1) line
    else record { byte = shown m b; column = column; in_code = is_in_code m } ∷ squeezed_from (after m b) (column + 1) line

-- a whole line
abbrev pub squeezed : List ℕ → List Placed
squeezed line = squeezed_from Code 1 line

-- the bytes alone
abbrev pub bytes : List Placed → List ℕ
bytes placed = map (λ p. p.byte) placed
