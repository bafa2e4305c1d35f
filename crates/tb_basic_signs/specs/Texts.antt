-- Whole texts, as they are written between two quotes.
use Rattle.std.specs.Prelude.{ℕ, zero, suc, ◌-◌, Bool, not, ◌&&◌, ◌||◌, ◌==◌, nat_le, List, [], ◌∷◌, ◌++◌, flat_map, replicate, Option, Some, None, option_map, if◌then◌else◌}
use Rattle.std.specs.List.{list_all}
use Rattle.std.specs.Option.{option_and_then, option_map_or}
use Rattle.tb_words.specs.Hexadecimal.{two_digits}
use Rattle.tb_basic_signs.specs.declared.characters.Character.{Character}
use Rattle.tb_basic_signs.specs.Characters.{character_at, may_hold}
use Rattle.tb_basic_signs.specs.Names.{name_of}

-- what a character stands for, before other bytes
abbrev pub meant : Character → List ℕ → List ℕ
meant c bytes = replicate c.times c.byte ++ bytes

-- the bytes that a text stands for, from after those on that belong to a character before
abbrev pub bytes_from : (taken : ℕ) → List ℕ → Option (List ℕ)
bytes_from taken [] = Some []
bytes_from (suc taken) (b ∷ text) = bytes_from taken text
bytes_from zero (b ∷ text) = option_and_then (λ c. option_map (meant c) (bytes_from (c.length - 1) text)) (character_at (b ∷ text))

-- the bytes that a text stands for, if at each place a character begins
abbrev pub bytes_of : List ℕ → Option (List ℕ)
bytes_of text = bytes_from 0 text

-- whether a byte is written as itself: from 32 to 91, but no quote, and 93
abbrev pub is_itself : ℕ → Bool
is_itself b = not (b == 34) && ((nat_le 32 b && nat_le b 91) || (b == 93))

-- what stands between braces for a byte: its name, or two digits
abbrev pub inside_of : ℕ → List ℕ
inside_of b = option_map_or (λ name. name) (name_of b) (two_digits b [])

-- a byte as it is written
abbrev pub written : ℕ → List ℕ
written b = if is_itself b then b ∷ [] else 123 ∷ inside_of b ++ 125 ∷ []

-- the text of some bytes, if a text may hold each of them
abbrev pub text_of : List ℕ → Option (List ℕ)
text_of bytes = if list_all may_hold bytes then Some (flat_map written bytes) else None
