-- Names of files and disks.
use Rattle.std.specs.Prelude.{ℕ, Bool, ◌==◌, ◌||◌, ◌&&◌, ◌≤◌, ◌-◌, nat_le, List, ◌++◌, length, replicate}
use Rattle.std.specs.List.{AllPass}

-- whether a byte is a sign of names: `A` to `Z`, `0` to `9`, space, `-` and `.`
abbrev pub is_name_sign : ℕ → Bool
is_name_sign c = (nat_le 65 c && nat_le c 90) || (nat_le 48 c && nat_le c 57) || (c == 32) || (c == 45) || (c == 46)

-- one to 16 such signs
pub record IsName (text : List ℕ) : Type 0 where
  pub some : 1 ≤ length text
  pub short : length text ≤ 16
  pub signs : AllPass is_name_sign text

-- a name's field: the name filled up to 16 bytes
abbrev pub field_of : List ℕ → List ℕ
field_of text = text ++ replicate (16 - length text) 0xa0
