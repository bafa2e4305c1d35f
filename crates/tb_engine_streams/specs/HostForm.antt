-- The text in which the bytes that a program sent are shown on the host.
use Rattle.std.specs.Prelude.{ℕ, ◌&&◌, ◌||◌, List, [], ◌∷◌, ◌++◌, flat_map, nat_eq, nat_le, Option, Some, None, if◌then◌else◌}
use Rattle.tb_words.specs.Hexadecimal.{two_digits}
use Rattle.tb_basic_signs.specs.Names.{name_of}
use Rattle.tb_basic_text.specs.declared.notation.Notation.{Notation}
use Rattle.tb_basic_text.specs.declared.notation.Notation.TheVariants.{Plain, Signs}

-- a byte in host form: 13 becomes 10, 32 to 90 are kept, any other byte is `{XX}`
abbrev pub host_byte : ℕ → List ℕ
host_byte b =
    if nat_eq b 13 then 10 ∷ []
    else if nat_le 32 b && nat_le b 90 then b ∷ []
    else 123 ∷ two_digits b (125 ∷ [])

-- the host form of all bytes that a program sent, in their order
abbrev pub host_form_of : List ℕ → List ℕ
host_form_of sent = flat_map host_byte sent

-- a byte by its name in braces, or in host form where it has none
abbrev pub named : Option (List ℕ) → ℕ → List ℕ
named None b = host_byte b
named (Some name) b = 123 ∷ name ++ 125 ∷ []

-- a byte as a source with signs has it: `[` and `]` are themselves, and one that has a name is `{name}`
abbrev pub sign_byte : ℕ → List ℕ
sign_byte b = if nat_eq b 91 || nat_eq b 93 then b ∷ [] else named (name_of b) b

-- a byte as it is shown by a notation: in host form, or with signs
abbrev pub shown_byte : Notation → ℕ → List ℕ
shown_byte Plain = host_byte
shown_byte Signs = sign_byte

-- how all bytes that a program sent are shown by a notation, in their order
abbrev pub shown_as : Notation → List ℕ → List ℕ
shown_as notation sent = flat_map (shown_byte notation) sent
