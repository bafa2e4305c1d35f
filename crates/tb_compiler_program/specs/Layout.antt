-- The addresses of the code of a list of items.
use Rattle.std.specs.Prelude.{◌≡◌, ℕ, ◌+◌, List, [], ◌∷◌, Some}
use Rattle.tb_asm.specs.declared.names.Name.{Name}
use Rattle.tb_asm.specs.Layout.{Entry, instr, label, bytes, word, size_of, address_in}

-- a label gives the address of its item
abbrev pub LabelAt : List (Name × ℕ) → ℕ → Entry → Type 0
LabelAt labels a (instr n m o) = Unit {0}
LabelAt labels a (label n) = address_in labels n ≡ Some a
LabelAt labels a (bytes bs) = Unit {0}
LabelAt labels a (word o) = Unit {0}

-- so do all labels of a list that is laid from an address
abbrev pub LabelsAt : List (Name × ℕ) → ℕ → List Entry → Type 0
LabelsAt labels a [] = Unit {0}
LabelsAt labels a (e ∷ es) = LabelAt labels a e × LabelsAt labels (a + size_of e) es
