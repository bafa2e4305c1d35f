-- Texts of places, values and lines.
use Rattle.std.specs.Prelude.{ℕ, ◌+◌, ◌-◌, ◌*◌, ◌^◌, ◌&&◌, ◌==◌, false, true, nat_le, List, [], ◌∷◌, ◌++◌, codes, Option, Some, None, option_and_then, option_map, if◌then◌else◌}
use Rattle.std.specs.Fmt.{digits, format_spec, padded_integral}
use Rattle.tb_engines.specs.Texts.{address_text}

-- a place in memory as requests name it
abbrev pub reference : ℕ → List ℕ
reference place = codes "0x" ++ address_text place

-- a place as registers show it
abbrev pub address_shown : ℕ → List ℕ
address_shown address = codes "$" ++ address_text address

-- a byte as registers show it
abbrev pub byte_shown : ℕ → List ℕ
byte_shown byte = codes "$" ++ padded_integral (format_spec 32 0 4 2 (2 ^ 64 - 1)) false [] (digits 16 true byte)

-- the value of a hexadecimal digit
abbrev pub digit_of : ℕ → Option ℕ
digit_of b =
    if nat_le 48 b && nat_le b 57 then Some (b - 48)
    else if nat_le 65 b && nat_le b 70 then Some (b - 65 + 10)
    else if nat_le 97 b && nat_le b 102 then Some (b - 97 + 10)
    else None

-- a number with one more digit
abbrev pub longer : ℕ → ℕ → Option ℕ
longer n b = option_map (λ d. n * 16 + d) (digit_of b)

-- the numbers that two, three and four digits spell
abbrev pub two_digits : ℕ → ℕ → Option ℕ
two_digits a b = option_and_then (λ n. longer n b) (digit_of a)

abbrev pub three_digits : ℕ → ℕ → ℕ → Option ℕ
three_digits a b c = option_and_then (λ n. longer n c) (two_digits a b)

abbrev pub four_digits : ℕ → ℕ → ℕ → ℕ → Option ℕ
four_digits a b c d = option_and_then (λ n. longer n d) (three_digits a b c)

-- the place that one to four digits spell
abbrev pub place_in : List ℕ → Option ℕ
place_in (a ∷ []) = digit_of a
place_in (a ∷ b ∷ []) = two_digits a b
place_in (a ∷ b ∷ c ∷ []) = three_digits a b c
place_in (a ∷ b ∷ c ∷ d ∷ []) = four_digits a b c d
place_in _ = None

-- the place that a reference names
abbrev pub place_of : List ℕ → Option ℕ
place_of (a ∷ b ∷ digits) = if (a == 48) && (b == 120) then place_in digits else None
place_of _ = None
