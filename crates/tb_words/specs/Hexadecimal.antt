-- Hexadecimal text in upper case.
use Rattle.std.specs.Prelude.{ℕ, ◌+◌, ◌/◌, ◌%◌, List, ◌∷◌, nat_lt, if◌then◌else◌}

-- the digit of a value from 0 to 15
abbrev pub hex_digit : ℕ → ℕ
hex_digit d = if nat_lt d 10 then 48 + d else 55 + d

-- the last two digits of a number, before `rest`
abbrev pub two_digits : ℕ → List ℕ → List ℕ
two_digits b rest = hex_digit (b / 16 % 16) ∷ hex_digit (b % 16) ∷ rest

-- the four digits of a word, before `rest`
abbrev pub four_digits : ℕ → List ℕ → List ℕ
four_digits w rest = hex_digit (w / 4096) ∷ hex_digit (w / 256 % 16) ∷ hex_digit (w / 16 % 16) ∷ hex_digit (w % 16) ∷ rest
