-- The names of control characters, as petcat writes them.
use Rattle.std.specs.Prelude.{ℕ, ◌==◌, List, [], ◌∷◌, codes, Option, Some, None, if◌then◌else◌}
use Rattle.std.specs.Str.{str_eq_ignore_ascii_case}

-- a control character: its name and its byte
pub record Control : Type 0 where
  pub name : List ℕ
  pub byte : ℕ

-- one of them
abbrev pub control : List ℕ → ℕ → Control
control name byte = record { name = name; byte = byte }

-- all that have a name
abbrev pub controls : List Control
controls =
    control (codes "blk") 0x90 ∷
    control (codes "wht") 0x05 ∷
    control (codes "red") 0x1C ∷
    control (codes "cyn") 0x9F ∷
    control (codes "pur") 0x9C ∷
    control (codes "grn") 0x1E ∷
    control (codes "blu") 0x1F ∷
    control (codes "yel") 0x9E ∷
    control (codes "orng") 0x81 ∷
    control (codes "brn") 0x95 ∷
    control (codes "lred") 0x96 ∷
    control (codes "gry1") 0x97 ∷
    control (codes "gry2") 0x98 ∷
    control (codes "lgrn") 0x99 ∷
    control (codes "lblu") 0x9A ∷
    control (codes "gry3") 0x9B ∷
    control (codes "clr") 0x93 ∷
    control (codes "home") 0x13 ∷
    control (codes "down") 0x11 ∷
    control (codes "up") 0x91 ∷
    control (codes "left") 0x9D ∷
    control (codes "rght") 0x1D ∷
    control (codes "rvon") 0x12 ∷
    control (codes "rvof") 0x92 ∷
    control (codes "swlc") 0x0E ∷
    control (codes "swuc") 0x8E ∷
    control (codes "del") 0x14 ∷
    control (codes "inst") 0x94 ∷ []

-- the byte of the first of them that a name names, in either case
abbrev pub first_named : List ℕ → List Control → Option ℕ
first_named name [] = None
first_named name (c ∷ cs) = if str_eq_ignore_ascii_case name c.name then Some c.byte else first_named name cs

-- the byte of a name, in either case
abbrev pub byte_named : List ℕ → Option ℕ
byte_named name = first_named name controls

-- the name of the first of them with a byte
abbrev pub first_with : ℕ → List Control → Option (List ℕ)
first_with byte [] = None
first_with byte (c ∷ cs) = if c.byte == byte then Some c.name else first_with byte cs

-- the name of a byte, if it has one
abbrev pub name_of : ℕ → Option (List ℕ)
name_of byte = first_with byte controls
