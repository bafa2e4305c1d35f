-- The name that was probably meant.
use Rattle.std.specs.Prelude.{ℕ, ◌+◌, ◌/◌, nat_eq, nat_lt, ◌==◌, List, [], ◌∷◌, length, map, Option, Some, None, if◌then◌else◌}
use Rattle.std.specs.Char.{is_ascii_alphanumeric, to_ascii_lowercase}
use Rattle.strsim.specs.Edits.{levenshtein_row}
use Rattle.tb_basic_signs.specs.Characters.{is_digit}
use Rattle.tb_basic_signs.specs.Names.{Control, controls}

-- how many letters are changed, left out and added from a word to another
abbrev pub edits : List ℕ → List ℕ → ℕ
edits word name = levenshtein_row nat_eq word name (length name)

-- the name of the fewest edits, the first one of them, if these are fewer than a bound; else the one found before
unfoldable pub nearest_from : List ℕ → ℕ → Option (List ℕ) → List Control → Option (List ℕ)
nearest_from word bound found [] = found
nearest_from word bound found (c ∷ cs) =
    if nat_lt (edits word c.name) bound then nearest_from word (edits word c.name) (Some c.name) cs
    else nearest_from word bound found cs

-- the name of the fewest edits from a word, the first one of them, if these are fewer than a bound
abbrev pub nearest : List ℕ → ℕ → List Control → Option (List ℕ)
nearest word bound cs = nearest_from word bound None cs

-- what follows the digits at the front
abbrev pub after_digits : List ℕ → List ℕ
after_digits [] = []
after_digits (b ∷ text) = if is_digit b then after_digits text else b ∷ text

-- what follows a space at the front of a text, or else another text
abbrev pub after_space : List ℕ → List ℕ → List ℕ
after_space [] other = other
after_space (b ∷ text) other = if b == 32 then text else other

-- what follows a count: digits and a space, if a text begins with them
abbrev pub after_count : List ℕ → List ℕ
after_count inside = after_space (after_digits inside) inside

-- the letters and digits at the front: what is written as a name
abbrev pub written_name : List ℕ → List ℕ
written_name [] = []
written_name (b ∷ text) = if is_ascii_alphanumeric b then b ∷ written_name text else []

-- the name nearest to that of a sign, by what follows its brace: of at most half as many edits as the sign has letters
abbrev pub near_name : List ℕ → Option (List ℕ)
near_name inside =
    let letters = map to_ascii_lowercase (written_name (after_count inside)) in nearest letters (length letters / 2 + 1) controls
