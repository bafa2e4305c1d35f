-- Whether one of the files has a name.
use Rattle.std.proofs.Common.{◌≡◌, ℕ, ◌<◌, ◌≤◌, List, [], ◌∷◌, length, map, get_or, sym, ap, ◌∙◌, arith}
use Rattle.std.specs.Prelude.{Contains}
use Rattle.std.proofs.lemmas.List.{get_or-map, length-map}
use Rattle.tb_engine_disk.specs.declared.files.Taken.{Taken}

abbrev field_in : Taken → List ℕ
field_in t = t.name.field

-- `has` found a file with this name
pub is_used : (files : List Taken) (i : ℕ) (t : Taken) (field : List ℕ) → i < length files → t ≡ get_or files i t → t.name.field ≡ field
    → Contains (map field_in files) field
is_used files i t field below at same =
    (i, omega (arith, below, length-map files field_in), get_or-map field_in files i t field below ∙ ap field_in (sym at) ∙ same)

-- `has` went over all files and found none with this name
pub is_unused : (files : List Taken) (n : ℕ) (field : List ℕ) → length files ≤ n
    → ((k : ℕ) (d : Taken) → k < n → (get_or files k d).name.field ≡ field → ⊥) → ¬ (Contains (map field_in files) field)
is_unused [] n field whole none = λ (k, below, at). absurd (omega (arith, below))
is_unused (t ∷ ts) n field whole none = λ (k, below, at).
    let within : k < length (t ∷ ts) = omega (arith, below, length-map (t ∷ ts) field_in) in
    none k t (omega (arith, within, whole)) (sym (get_or-map field_in (t ∷ ts) k t field within) ∙ at)
