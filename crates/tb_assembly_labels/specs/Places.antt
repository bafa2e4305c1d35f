-- The places and addresses that labels name. A label is said by its address and its name.
use Rattle.std.specs.Prelude.{ℕ, ◌-◌, ◌==◌, ◌&&◌, Bool, nat_le, nat_lt, List, [], ◌∷◌, ◌++◌, Option, Some, None, option_map, if◌then◌else◌}
use Rattle.std.specs.Fmt.{decimal}
use Rattle.std.specs.Str.{str_eq_ignore_ascii_case}
use Rattle.tb_assembly_labels.specs.declared.places.Place.{Place}

-- ---- the place at an address

-- a label is at an address, or at most 4,095 bytes before it
abbrev pub reaches : ℕ → ℕ × List ℕ → Bool
reaches address l = nat_le l.0 address && nat_lt (address - l.0) 4096

-- the nearer of two labels, the first of two at one address
abbrev pub nearer_of : ℕ × List ℕ → Option (ℕ × List ℕ) → Option (ℕ × List ℕ)
nearer_of l (Some best) = if nat_le l.0 best.0 then Some best else Some l
nearer_of l None = Some l

-- the nearer of the best label so far and another one, which counts only if it reaches the address
abbrev pub nearer : ℕ → Option (ℕ × List ℕ) → ℕ × List ℕ → Option (ℕ × List ℕ)
nearer address best l = if reaches address l then nearer_of l best else best

-- the nearest of labels that reach an address, and of one before them
abbrev pub nearest : ℕ → Option (ℕ × List ℕ) → List (ℕ × List ℕ) → Option (ℕ × List ℕ)
nearest address best [] = best
nearest address best (l ∷ labels) = nearest address (nearer address best l) labels

-- the name of a label, and how far an address is after it
abbrev pub from_label : ℕ → ℕ × List ℕ → List ℕ × ℕ
from_label address l = (l.1, address - l.0)

-- the place at an address, if a label reaches it
abbrev pub place_of : List (ℕ × List ℕ) → ℕ → Option (List ℕ × ℕ)
place_of labels address = option_map (from_label address) (nearest address None labels)

-- a place that was found
abbrev pub placed : Place → List ℕ × ℕ
placed p = (p.name.now, p.offset)

-- `loop`, or `loop+3`
abbrev pub place_text : List ℕ × ℕ → List ℕ
place_text p = if p.1 == 0 then p.0 else p.0 ++ 43 ∷ decimal p.1

-- ---- the address of a name

-- a name without a dot before it
abbrev pub without_dot : List ℕ → List ℕ
without_dot [] = []
without_dot (b ∷ name) = if b == 46 then name else b ∷ name

-- the address of the first label with a name, whose letters may be in either case
abbrev pub first_named : List ℕ → List (ℕ × List ℕ) → Option ℕ
first_named name [] = None
first_named name (l ∷ labels) = if str_eq_ignore_ascii_case name l.1 then Some l.0 else first_named name labels

-- the address of the first label with a name, which may have a dot before it
abbrev pub address_of : List (ℕ × List ℕ) → List ℕ → Option ℕ
address_of labels name = first_named (without_dot name) labels
