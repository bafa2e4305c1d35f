-- What a text types.
use Rattle.std.specs.Prelude.{ℕ, ◌==◌, ◌&&◌, List, [], ◌∷◌, if◌then◌else◌}
use Rattle.std.specs.Char.{to_ascii_uppercase}

-- the key of a byte: a line end is a return, a small letter is its capital
abbrev pub key : ℕ → ℕ
key b = if b == 10 then 13 else to_ascii_uppercase b

-- the keys of a text: a backslash and an n are a return too
abbrev pub keys_typed : List ℕ → List ℕ
keys_typed [] = []
keys_typed (b ∷ []) = key b ∷ []
keys_typed (b ∷ c ∷ text) = if b == 92 && c == 110 then 13 ∷ keys_typed text else key b ∷ keys_typed (c ∷ text)
