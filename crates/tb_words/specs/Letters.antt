-- The letters of the alphabet by their indices, from 0 for A.
use Rattle.std.specs.Prelude.{ℕ, ◌≡◌, ◌+◌, ◌⊎◌}
use Rattle.tb_words.specs.declared.Letter.{Letter}

-- the index of a letter in the alphabet
abbrev pub letter_index : Letter → ℕ
letter_index letter = letter.index

-- a byte is the capital or the small letter at an index
abbrev pub Spells : ℕ → ℕ → Type 0
Spells byte n = (byte ≡ 65 + n) ⊎ (byte ≡ 97 + n)
