-- Labels for a debugger, as VICE's monitor reads them.
use Rattle.std.specs.Prelude.{ℕ, ◌/◌, ◌%◌, Ok, List, [], ◌∷◌, ◌++◌, codes, map, flat_map, nat_lt, if◌then◌else◌}
use Rattle.std.specs.Char.{to_ascii_lowercase}
use Rattle.hex.specs.Hex.{encode_lower}
use Rattle.tb_assembly_text.specs.Tokens.{is_name_byte}
use Rattle.tb_assembly_text.specs.Statements.{labels}
use Rattle.tb_assembly_meaning.specs.Places.{Lying}

-- a byte of a name: a small letter, a digit, or `_` for any other byte
abbrev pub label_byte : ℕ → ℕ
label_byte b = if is_name_byte b then to_ascii_lowercase b else 95

-- `al C:c000 .loop`: the line of a name and its address
abbrev pub label_text : List ℕ → ℕ → List ℕ
label_text name at = codes "al C:" ++ encode_lower (at / 256 ∷ at % 256 ∷ []) ++ codes " ." ++ map label_byte name ++ 10 ∷ []

-- the line of a name and its address, if that is below 65,536; else nothing
abbrev pub label_line : List ℕ → ℕ → List ℕ
label_line name at = if nat_lt at 65536 then label_text name at else []

-- the line of a statement that is a label
abbrev pub label_of : Lying → List ℕ
label_of ((c, labels n), Ok p) = label_line n p.at
label_of l = []

-- the lines of all labels, in their order
abbrev pub labels_text : List Lying → List ℕ
labels_text ls = flat_map label_of ls
