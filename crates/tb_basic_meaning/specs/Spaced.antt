-- The commas of a PRINT: each follows a text or a value.
use Rattle.std.specs.Prelude.{Bool, true, false, List, [], ◌∷◌}
use Rattle.tb_basic_syntax.specs.Source.{Item, Text, Value, Zone, Statement, Print, If, Program}

-- a comma follows a text or a value of its own, so that these pay for it; the Bool says whether one comes before
abbrev pub AreApart : Bool → List Item → Type 0
AreApart behind [] = Unit {0}
AreApart true (Zone ∷ items) = AreApart false items
AreApart false (Zone ∷ items) = ⊥
AreApart behind (Text bs ∷ items) = AreApart true items
AreApart behind (Value e ∷ items) = AreApart true items

-- in a PRINT, alone or after IFs, each comma follows a text or a value of its own
abbrev pub IsSpaced : Statement → Type 0
IsSpaced (Print items ends) = AreApart false items
IsSpaced (If l rel r c) = IsSpaced c
IsSpaced _ = Unit {0}

-- this holds for the statement of each line
abbrev pub AreSpaced : Program → Type 0
AreSpaced [] = Unit {0}
AreSpaced (line ∷ lines) = IsSpaced line.content × AreSpaced lines
