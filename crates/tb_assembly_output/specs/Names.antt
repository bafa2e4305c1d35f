-- The names that a text has.
use Rattle.std.specs.Prelude.{ℕ, ◌==◌, Option, Some, None, List, [], ◌∷◌, flat_map, if◌then◌else◌}
use Rattle.tb_assembly_text.specs.Statements.{Meant, labels, assigns, Said}

-- the part of a name behind the label to which it belongs
abbrev pub own_from : List ℕ → List ℕ → List ℕ
own_from found [] = found
own_from found (b ∷ bs) = own_from (if b == 58 then bs else found) bs

abbrev pub own_part : List ℕ → List ℕ
own_part name = own_from name name

-- the name that a statement gives to something
abbrev pub name_in : Meant → Option (List ℕ)
name_in (labels n) = Some (own_part n)
name_in (assigns n e) = Some (own_part n)
name_in m = None

-- one or none as a list
abbrev pub listed : Option (List ℕ) → List (List ℕ)
listed None = []
listed (Some n) = n ∷ []

-- the name that a statement with its column gives to something, as a list of one or none
abbrev pub named_in : Said → List (List ℕ)
named_in s = listed (name_in s.1)

-- the names that statements give to something
abbrev pub names_in : List Said → List (List ℕ)
names_in ss = flat_map named_in ss
