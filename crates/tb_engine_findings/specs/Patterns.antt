-- Patterns of code: a small letter stands for each byte of a class, any other byte for itself.
use Rattle.std.specs.Prelude.{ℕ, Bool, true, false, ◌&&◌, ◌||◌, ◌==◌, if◌then◌else◌, List, [], ◌∷◌, reverse}
use Rattle.std.specs.Char.{is_ascii_digit, is_ascii_uppercase}

-- ── classes ──
-- + -
abbrev pub is_sign : ℕ → Bool
is_sign b = (b == 43) || (b == 45)

-- + - * /
abbrev pub is_operator : ℕ → Bool
is_operator b = is_sign b || ((b == 42) || (b == 47))

-- < = >
abbrev pub is_relation : ℕ → Bool
is_relation b = (b == 60) || ((b == 61) || (b == 62))

-- , ;
abbrev pub is_separator : ℕ → Bool
is_separator b = (b == 44) || (b == 59)

-- the first byte of a text or of a value: a letter, a digit, ( or a quote
abbrev pub begins_value : ℕ → Bool
begins_value b = is_ascii_uppercase b || (is_ascii_digit b || ((b == 40) || (b == 34)))

-- the last byte of a text or of a value: a letter, a digit, ) or a quote
abbrev pub ends_value : ℕ → Bool
ends_value b = is_ascii_uppercase b || (is_ascii_digit b || ((b == 41) || (b == 34)))

-- whether a byte of a pattern stands for a byte: l for letters, d for digits, s for signs, o for operators, r for
-- relations, p for separators, b and e for what values begin and end with
abbrev pub stands_for : ℕ → ℕ → Bool
stands_for sign b =
    if sign == 108 then is_ascii_uppercase b
    else if sign == 100 then is_ascii_digit b
    else if sign == 115 then is_sign b
    else if sign == 111 then is_operator b
    else if sign == 114 then is_relation b
    else if sign == 112 then is_separator b
    else if sign == 98 then begins_value b
    else if sign == 101 then ends_value b
    else sign == b

-- ── patterns in a text ──
-- whether a text begins with what a pattern stands for
abbrev pub fits_front : (pattern text : List ℕ) → Bool
fits_front [] text = true
fits_front (sign ∷ signs) [] = false
fits_front (sign ∷ signs) (b ∷ bs) = stands_for sign b && fits_front signs bs

-- whether it ends with that
abbrev pub fits_end : (pattern text : List ℕ) → Bool
fits_end pattern text = fits_front (reverse pattern) (reverse text)

-- whether that is somewhere in it
abbrev pub is_in : (pattern text : List ℕ) → Bool
is_in pattern [] = fits_front pattern []
is_in pattern (b ∷ bs) = fits_front pattern (b ∷ bs) || is_in pattern bs
