-- Columns in units of UTF-16.
use Rattle.std.specs.Prelude.{ℕ, ◌≡◌, ◌+◌, ◌-◌, ◌≤◌, Bool, false, ◌&&◌, List, [], ◌∷◌, drop, length, take, nat_le, nat_lt, map, sum, Option, Some, None, option_map, unwrap_or, if◌then◌else◌}

-- how many units a byte of UTF-8 begins: two where it begins a character of four bytes, none where it begins no character
abbrev pub units : ℕ → ℕ
units b = if nat_lt b 128 then 1 else if nat_lt b 192 then 0 else if nat_lt b 240 then 1 else 2

-- how many units bytes begin
abbrev pub units_of : List ℕ → ℕ
units_of bytes = sum (map units bytes)

-- a byte that begins no character
abbrev pub goes_on : ℕ → Bool
goes_on b = nat_le 128 b && nat_le b 191

-- what is left of a column after a byte: bytes that begin no character belong to the one before them
abbrev pub left_after : ℕ → ℕ → Option ℕ
left_after column b = if goes_on b then Some column else if nat_lt column (units b) then None else Some (column - units b)

-- how many bytes are before a column: a character that goes beyond it is not passed, nor is the line's end
abbrev pub place_at : ℕ → List ℕ → ℕ
place_at column [] = 0
place_at column (b ∷ bytes) = unwrap_or (option_map (λ left. place_at left bytes + 1) (left_after column b)) 0

-- bytes that begin with a character, or none
abbrev pub Begins : List ℕ → Type 0
Begins [] = Unit {0}
Begins (b ∷ bytes) = goes_on b ≡ false

-- from the column of a place where a character begins that place is found
abbrev pub LeadsBack : ℕ → List ℕ → ℕ → Type 0
LeadsBack column bytes found = (i : ℕ) → i ≤ length bytes → Begins (drop i bytes) → column ≡ units_of (take i bytes) → found ≡ i
