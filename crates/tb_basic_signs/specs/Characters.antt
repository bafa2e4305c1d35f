-- Characters of texts: plain ones, and signs, which begin with `{`, 123, and end with `}`, 125.
use Rattle.std.specs.Prelude.{ℕ, ◌+◌, ◌-◌, ◌*◌, min, Bool, not, ◌&&◌, ◌||◌, ◌==◌, nat_le, nat_lt, List, [], ◌∷◌, take, Option, Some, None, option_map, if◌then◌else◌}
use Rattle.std.specs.Char.{digit_value}
use Rattle.std.specs.Option.{option_and_then, option_or}
use Rattle.tb_basic_signs.specs.Numbers.{MOST_TIMES}
use Rattle.tb_basic_signs.specs.declared.characters.Character.{Character}
use Rattle.tb_basic_signs.specs.declared.characters.Repeated.{Repeated}
use Rattle.tb_basic_signs.specs.Names.{byte_named}

-- whether a text may hold a byte: any but a quote and a new line
abbrev pub may_hold : ℕ → Bool
may_hold b = not ((b == 34) || (b == 13))

-- the value of a hexadecimal digit, in either case
abbrev pub hexadecimal : ℕ → Option ℕ
hexadecimal b = if nat_lt (digit_value b) 16 then Some (digit_value b) else None

-- a byte, if a text may hold it
abbrev pub held : ℕ → Option ℕ
held b = if may_hold b then Some b else None

-- the byte that two hexadecimal digits spell, if a text may hold it
abbrev pub byte_of_digits : List ℕ → Option ℕ
byte_of_digits (high ∷ low ∷ []) = option_and_then (λ h. option_and_then (λ l. held (16 * h + l)) (hexadecimal low)) (hexadecimal high)
byte_of_digits _ = None

-- a byte so many times
abbrev pub repeated : ℕ → ℕ → Repeated
repeated times b = record { byte = b; times = times }

-- a decimal digit
abbrev pub is_digit : ℕ → Bool
is_digit b = nat_le 48 b && nat_le b 57

-- a number with one more digit; all above 255 are the same, since no count is
abbrev pub longer : ℕ → ℕ → ℕ
longer number digit = min (10 * number + digit) (MOST_TIMES + 1)

-- a byte, if there is one, so many times, from 1 to 255
abbrev pub several : ℕ → Option ℕ → Option Repeated
several times b = if nat_le 1 times && nat_le times MOST_TIMES then option_map (repeated times) b else None

-- after the digits of a count, as the number that they spell: more of them, or a space and a name
abbrev pub counted : ℕ → List ℕ → Option Repeated
counted times [] = None
counted times (b ∷ rest) =
    if is_digit b then counted (longer times (b - 48)) rest
    else if b == 32 then several times (byte_named rest)
    else None

-- what stands between two braces: two digits, a name, or a count and a name
abbrev pub stands_for : List ℕ → Option Repeated
stands_for content =
    option_or (option_map (repeated 1) (byte_of_digits content)) (option_or (option_map (repeated 1) (byte_named content)) (counted 0 content))

-- how many bytes are before the first closing brace, after some that were looked at
abbrev pub closing : ℕ → List ℕ → Option ℕ
closing n [] = None
closing n (b ∷ bytes) = if b == 125 then Some n else closing (n + 1) bytes

-- a character
abbrev pub character : ℕ → Repeated → Character
character length r = record { byte = r.byte; times = r.times; length = length }

-- the sign with its first brace before a text
abbrev pub sign_behind : List ℕ → Option Character
sign_behind inside = option_and_then (λ end. option_map (character (end + 2)) (stands_for (take end inside))) (closing 0 inside)

-- whether a byte of a text stands for itself, or for its capital: from 32 to 91, but no quote, 93, and letters
abbrev pub is_plain : ℕ → Bool
is_plain b = not (b == 34) && ((nat_le 32 b && nat_le b 91) || ((b == 93) || (nat_le 97 b && nat_le b 122)))

-- a letter in upper case
abbrev pub upper : ℕ → ℕ
upper b = if nat_le 97 b && nat_le b 122 then b - 32 else b

-- the character that a text begins with
abbrev pub character_at : List ℕ → Option Character
character_at [] = None
character_at (b ∷ bytes) =
    if b == 123 then sign_behind bytes
    else if is_plain b then Some (character 1 (repeated 1 (upper b)))
    else None
