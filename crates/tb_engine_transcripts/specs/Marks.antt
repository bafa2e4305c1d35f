-- What begins lines, and the numbers in them.
use Rattle.std.specs.Prelude.{ℕ, ◌+◌, ◌-◌, ◌*◌, ◌==◌, ◌&&◌, Bool, nat_le, List, [], ◌∷◌, Option, Some, None, if◌then◌else◌}

-- what follows a word at the front of a text, if the word is there
abbrev pub behind : List ℕ → List ℕ → Option (List ℕ)
behind [] text = Some text
behind (letter ∷ letters) [] = None
behind (letter ∷ letters) (b ∷ text) = if b == letter then behind letters text else None

-- a decimal digit
abbrev pub is_digit : ℕ → Bool
is_digit b = nat_le 48 b && nat_le b 57

-- the number that some digits spell, and these behind them, if it is at most this
abbrev pub number_from : ℕ → ℕ → List ℕ → Option ℕ
number_from most begun [] = Some begun
number_from most begun (b ∷ digits) =
    if is_digit b && nat_le (10 * begun + (b - 48)) most then number_from most (10 * begun + (b - 48)) digits else None

-- the number that a text spells, which begins with no zero but for 0 itself
abbrev pub number : ℕ → List ℕ → Option ℕ
number most [] = None
number most (b ∷ []) = number_from most 0 (b ∷ [])
number most (b ∷ c ∷ digits) = if b == 48 then None else number_from most 0 (b ∷ c ∷ digits)
