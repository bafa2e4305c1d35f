-- Where the words of a line begin that ask for options.
use Rattle.std.specs.Prelude.{ℕ, ◌-◌, List, [], ◌∷◌, Bool, Option, Some, None, nat_le, ◌==◌, ◌&&◌, ◌||◌, if◌then◌else◌}
use Rattle.tb_basic_options.specs.declared.remarks.TheConstants.{MARK}

-- a decimal digit
abbrev pub is_digit : ℕ → Bool
is_digit b = nat_le 48 b && nat_le b 57

-- a letter in upper case
abbrev pub upper : ℕ → ℕ
upper b = if nat_le 97 b && nat_le b 122 then b - 32 else b

-- a line behind its number, and behind spaces before that and in it
abbrev pub behind_number : List ℕ → List ℕ
behind_number [] = []
behind_number (b ∷ line) = if (b == 32) || is_digit b then behind_number line else b ∷ line

-- a text behind a word, which may have spaces before each of its letters, and in either case
abbrev pub behind : List ℕ → List ℕ → Option (List ℕ)
behind [] text = Some text
behind (letter ∷ letters) [] = None
behind (letter ∷ letters) (b ∷ text) =
    if b == 32 then behind (letter ∷ letters) text
    else if upper b == letter then behind letters text
    else None

-- what a line has behind the mark
abbrev pub words_behind : List ℕ → Option (List ℕ)
words_behind line = behind MARK.now (behind_number line)
