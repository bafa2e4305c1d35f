-- The parts of a line, read from the left.
use Rattle.std.specs.Prelude.{ℕ, ◌+◌, ◌-◌, ◌*◌, ◌||◌, Option, Some, None, List, [], ◌∷◌, ◌++◌, length, nat_lt, eqb, if◌then◌else◌}
use Rattle.tb_asm.specs.declared.parts.Part.{Part}
use Rattle.tb_asm.specs.declared.parts.Part.TheVariants.{Identifier, TwoDigits, FourDigits, Hash, Less, Greater, Left, Right, Comma, Colon}
use Rattle.tb_asm.specs.Names.{is_between, is_letter, may_follow, fold_byte}

-- an identifier by its letters in upper case
abbrev pub identifier : List ℕ → Part
identifier w = Identifier (record { items = w })

-- a number by the values of its hexadecimal digits: two or four
abbrev pub number_of : List ℕ → Option Part
number_of (a ∷ b ∷ []) = Some (TwoDigits (16 * a + b))
number_of (a ∷ b ∷ c ∷ d ∷ []) = Some (FourDigits (4096 * a + 256 * b + 16 * c + d))
number_of ds = None

-- where the reading is: between two parts, in an identifier or in a number, with what was read of it
pub data ReadState : Type 0 where
  between : ReadState
  in_identifier : List ℕ → ReadState
  in_number : List ℕ → ReadState

-- the value of a hexadecimal digit in either case, 0 to 15; None for any other byte
abbrev pub digit_value : ℕ → Option ℕ
digit_value b = if is_between 48 57 b then Some (b - 48) else if is_between 65 70 b then Some (b - 55) else if is_between 97 102 b then Some (b - 87) else None

-- the sign of a byte: `#`, `<`, `>`, `(`, `)`, a comma or a colon; None for any other byte
abbrev pub sign_of : ℕ → Option Part
sign_of b =
    if eqb b 35 then Some Hash else
    if eqb b 60 then Some Less else
    if eqb b 62 then Some Greater else
    if eqb b 40 then Some Left else
    if eqb b 41 then Some Right else
    if eqb b 44 then Some Comma else
    if eqb b 58 then Some Colon else None

-- a part before those that are read after it, None if these are refused
abbrev pub with_part : Part → Option (List Part) → Option (List Part)
with_part p None = None
with_part p (Some ps) = Some (p ∷ ps)

-- a part that may be refused before those that are read after it, None if it or these are refused
abbrev pub with_found : Option Part → Option (List Part) → Option (List Part)
with_found None ps = None
with_found (Some p) ps = with_part p ps

-- the byte b where a part begins or a comment does; `go` reads on
abbrev pub fresh : ℕ → (ReadState → Option (List Part)) → Option (List Part)
fresh b go =
    if eqb b 59 then Some [] else
    if eqb b 32 then go between else
    if is_letter (fold_byte b) || eqb b 46 then go (in_identifier (fold_byte b ∷ [])) else
    if eqb b 36 then go (in_number []) else with_found (sign_of b) (go between)

-- the byte b in an identifier after the letters `w`, of which it has at most 31
abbrev pub letter_on : List ℕ → ℕ → (ReadState → Option (List Part)) → Option (List Part)
letter_on w b go = if nat_lt (length w) 31 then go (in_identifier (w ++ b ∷ [])) else None

-- the byte b in a number after the digits `ds`, of which it has at most four: a digit, or the byte after the number
abbrev pub digit_on : Option ℕ → List ℕ → ℕ → (ReadState → Option (List Part)) → Option (List Part)
digit_on None ds b go = with_found (number_of ds) (fresh b go)
digit_on (Some d) ds b go = if nat_lt (length ds) 4 then go (in_number (ds ++ d ∷ [])) else None

-- the byte b at a place of the reading; `go` reads on from the place after it
abbrev pub step : ReadState → ℕ → (ReadState → Option (List Part)) → Option (List Part)
step between b go = fresh b go
step (in_identifier w) b go = if may_follow (fold_byte b) then letter_on w (fold_byte b) go else with_part (identifier w) (fresh b go)
step (in_number ds) b go = digit_on (digit_value b) ds b go

-- the part that ends with the line, if any; None if it is a number of neither two nor four digits
abbrev pub finish : ReadState → Option (List Part)
finish between = Some []
finish (in_identifier w) = Some (identifier w ∷ [])
finish (in_number ds) = with_found (number_of ds) (Some [])

-- the parts of what is left of a line from a place of the reading on, None if they are refused
abbrev pub parts_from : ReadState → List ℕ → Option (List Part)
parts_from p [] = finish p
parts_from p (b ∷ bs) = step p b (λ q. parts_from q bs)

-- the parts of a line; None if a byte begins no part, or a part is too long or has three digits or one
abbrev pub parts_of : List ℕ → Option (List Part)
parts_of line = parts_from between line
