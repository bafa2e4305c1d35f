-- Numbers and variables, as lines spell them.
use Rattle.std.specs.Prelude.{ℕ, ◌-◌, ◌&&◌, nat_le, List, [], ◌∷◌, length, Option, Some, None, if◌then◌else◌}
use Rattle.std.specs.List.{list_all}
use Rattle.tb_words.specs.Letters.{letter_index}
use Rattle.tb_words.specs.declared.Letter.{Letter}
use Rattle.tb_basic_grammar.specs.Grammar.{value_after, is_digit, is_letter}

-- the number of digits that follow those of a number, up to the largest one of 64 bits
abbrev pub number_behind : ℕ → List ℕ → Option ℕ
number_behind n ds = if list_all is_digit ds && nat_le (value_after n ds) 18446744073709551615 then Some (value_after n ds) else None

-- the number that digits spell, at least one and no more than `most`
abbrev pub number_of : ℕ → List ℕ → Option ℕ
number_of most ds = if nat_le 1 (length ds) && nat_le (length ds) most then number_behind 0 ds else None

-- the index of a letter, capital or small
abbrev pub index_named : ℕ → Option ℕ
index_named b = if is_letter b then Some (b - 65) else if nat_le 97 b && nat_le b 122 then Some (b - 97) else None

-- the index of the variable that a text of one letter names
abbrev pub variable_in : List ℕ → Option ℕ
variable_in [] = None
variable_in (b ∷ []) = index_named b
variable_in (b ∷ c ∷ text) = None

-- the index of a letter that was read
abbrev pub index_of : Option Letter → Option ℕ
index_of (Some letter) = Some (letter_index letter)
index_of None = None
