-- The name that a disk gets.
use Rattle.std.proofs.Common.{◌≡◌, ℕ, List, ◌∷◌, [], sym, subst, ◌∙◌, inl, inr}
use Rattle.tb_machine_disk.specs.declared.names.Name.{Name}
use Rattle.tb_machine_disk.specs.Names.{IsName}
use Rattle.tb_machine_disk.specs.Images.{text_of}
use Rattle.tb_engine_disk.specs.Names.{disk_text, NamesDisk}

-- the name that a disk gets if what it is called is a name
pub named : (path text : List ℕ) (name : Name) → text ≡ disk_text path → IsName text → text_of name ≡ text → NamesDisk path name
named path text name same is back = inl (subst IsName same is, back ∙ same)

-- the name that a disk gets, `TBC`, if what it is called is no name
pub unnamed : (path text : List ℕ) (name : Name) → text ≡ disk_text path → ¬ (IsName text) → text_of name ≡ 84 ∷ 66 ∷ 67 ∷ [] → NamesDisk path name
unnamed path text name same none back = inr ((λ is. none (subst IsName (sym same) is)), back)
