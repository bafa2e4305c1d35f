-- What holds of the image of items, and of items that assemble without a refusal.
use Rattle.std.specs.Prelude.{◌≡◌, ℕ, ◌+◌, ◌<◌, true, false, Some, None, List, [], ◌∷◌, ◌++◌, take, drop, slice_index}
use Rattle.std.specs.List.{list_all, list_any}
use Rattle.tb_opcodes.specs.declared.Mnemonic.{Mnemonic}
use Rattle.tb_opcodes.specs.declared.Mode.{Mode}
use Rattle.tb_opcodes.specs.Opcodes.{decoded}
use Rattle.tb_asm.specs.declared.names.Name.{Name}
use Rattle.tb_asm.specs.declared.items.Operand.{Operand}
use Rattle.tb_asm.specs.Layout.{Entry, instr, label, size_of, size, has_mode, same_name, address_in, labels_from, bytes_of, code_fault}

-- the bytes of each item are at its address
abbrev pub BytesStand : ℕ → List Entry → List ℕ → List (Name × ℕ) → Type 0
BytesStand at es image labels =
    (before : List Entry) (e : Entry) (after : List Entry) → es ≡ before ++ e ∷ after → take (size_of e) (drop (size before) image) ≡ bytes_of labels (at + size before) e

-- each instruction's first byte there decodes to its mnemonic and mode
abbrev pub Decodes : List Entry → List ℕ → Type 0
Decodes es image =
    (before : List Entry) (n : Mnemonic) (m : Mode) (o : Operand) (after : List Entry) → es ≡ before ++ instr n m o ∷ after → decoded (slice_index image (size before)) ≡ Some (n, m)

-- the value of each label is the address of its item
abbrev pub LabelsStand : ℕ → List Entry → List (Name × ℕ) → Type 0
LabelsStand at es labels =
    (before : List Entry) (n : Name) (after : List Entry) → es ≡ before ++ label n ∷ after → address_in labels n ≡ Some (at + size before)

-- the name of an item that is a label
abbrev pub name_at : Entry → List Name
name_at (label n) = n ∷ []
name_at e = []

-- the names of all labels among items, in their order; a name may come twice
abbrev pub names_of : List Entry → List Name
names_of [] = []
names_of (e ∷ es) = name_at e ++ names_of es

-- no name comes twice
abbrev pub AreDistinct : List Name → Type 0
AreDistinct [] = Unit {0}
AreDistinct (n ∷ ns) = (list_any (same_name n) ns ≡ false) × AreDistinct ns

-- each operand has a value, and each branch and indirect jump reaches, at the item's address
abbrev pub AllReachFrom : List (Name × ℕ) → ℕ → List Entry → Type 0
AllReachFrom labels a [] = Unit {0}
AllReachFrom labels a (e ∷ es) = (code_fault labels a e ≡ None) × AllReachFrom labels (a + size_of e) es

-- items that assemble: their operands suit, their labels are distinct, they end below 65,536, and everything is in reach
pub record Suited (at : ℕ) (es : List Entry) : Type 0 where
  pub modes : list_all has_mode es ≡ true
  pub names : AreDistinct (names_of es)
  pub ends : at + size es < 65536
  pub reach : AllReachFrom (labels_from at es) at es
