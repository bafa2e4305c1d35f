-- Settled items: each branch to a label reaches it, as it is or as the inverse branch over a jump.
use Rattle.std.specs.Prelude.{◌≡◌, ℕ, ◌+◌, ◌%◌, ◌≤◌, Bool, true, false, not, eqb, is_some, if◌then◌else◌, Some, None, List, [], ◌∷◌, map}
use Rattle.std.specs.List.{AllZip, list_all}
use Rattle.tb_opcodes.specs.declared.Mode.TheVariants.{Relative, Indirect}
use Rattle.tb_asm.specs.declared.names.Name.{Name}
use Rattle.tb_asm.specs.declared.items.Operand.{Operand}
use Rattle.tb_asm.specs.declared.items.Operand.TheVariants.{Word, Label}
use Rattle.tb_asm.specs.declared.errors.AsmErrorKind.{AsmErrorKind}
use Rattle.tb_asm.specs.Layout.{Entry, instr, size_of, size, has_mode, labels_from, image_of}
use Rattle.tb_asm.specs.Assembled.{RefusesAt, refusal}
use Rattle.tb_asm.specs.Settle.{Form, kept, long, branch_to, items_from, unknown_fault, Settles, SettlesTo, AllReach}
use Rattle.tb_asm.specs.Marks.{SettleErr}
use Rattle.tb_asm.specs.Suited.{names_of, AreDistinct}

-- ── settled items ──
-- a form of an item: the item, or the two items that replace a branch to a label
abbrev pub IsFormOf : Entry → Form → Type 0
IsFormOf e (kept k) = k ≡ e
IsFormOf e (long n l) = branch_to e ≡ Some (n, l)

-- a form of each item, in their order
abbrev pub AreFormsOf : List Entry → List Form → Type 0
AreFormsOf es forms = AllZip IsFormOf es forms

-- items that replace others from an address: forms of these, in which each branch to a label reaches it
pub record IsSettled (at : ℕ) (es items : List Entry) : Type 0 where
  pub forms : List Form
  pub of : AreFormsOf es forms
  pub are : items ≡ items_from at forms
  pub reach : AllReach at items

-- the image of items that are settled first; the rounds replace no branch that need not be replaced
pub record IsLaid (at : ℕ) (es : List Entry) (from : ℕ) (bytes : List ℕ) (labels : List (Name × ℕ)) : Type 0 where
  pub items : List Entry
  pub settled : IsSettled at es items
  pub rounds : SettlesTo at es items
  pub accepted : refusal at items ≡ None
  pub from_is : from ≡ at
  pub bytes_are : bytes ≡ image_of at items
  pub labels_are : labels ≡ labels_from at items

-- ── refusals ──
-- what is refused: by settling, or of the settled items by the two passes
pub data MayRefuse (at : ℕ) (es : List Entry) : AsmErrorKind → ℕ → Type 0 where
  unsettled : (kind : AsmErrorKind) (item : ℕ) → SettleErr at es kind item → MayRefuse at es kind item
  settled : (items : List Entry) (kind : AsmErrorKind) (item : ℕ) → SettlesTo at es items → RefusesAt (refusal at items) kind item → MayRefuse at es kind item

-- the bytes of an item at most: a branch to a label takes 2, or 5 with a jump
abbrev pub most_of : Entry → ℕ
most_of e = if is_some (branch_to e) then 5 else size_of e

-- the bytes of items at most
abbrev pub most : List Entry → ℕ
most [] = 0
most (e ∷ es) = most_of e + most es

-- whether an operand is a label
abbrev pub is_label : Operand → Bool
is_label (Label n) = true
is_label o = false

-- whether an operand is a fixed address whose low byte is not $FF
abbrev pub is_inside_a_page : Operand → Bool
is_inside_a_page (Word w) = not (eqb (w % 256) 255)
is_inside_a_page o = false

-- an item that may be at any address: a branch goes to a label, and an indirect jump has a fixed pointer inside a page
abbrev pub may_move : Entry → Bool
may_move (instr n Relative o) = is_label o
may_move (instr n Indirect o) = is_inside_a_page o
may_move e = true

-- each label that an operand names is one of these
abbrev pub AllKnown : List (Name × ℕ) → List Entry → Type 0
AllKnown labels [] = Unit {0}
AllKnown labels (e ∷ es) = (unknown_fault labels e ≡ None) × AllKnown labels es

-- items that suit: their operands do, their labels are distinct and known, and they may move
pub record Suits (at : ℕ) (es : List Entry) : Type 0 where
  pub modes : list_all has_mode es ≡ true
  pub names : AreDistinct (names_of es)
  pub known : AllKnown (labels_from at es) es
  pub movable : list_all may_move es ≡ true

-- once they are settled, items end at an address or after it
pub record EndsFrom (place at : ℕ) (es : List Entry) : Type 0 where
  pub forms : List Form
  pub rounds : Settles at (map kept es) forms
  pub beyond : place ≤ at + size (items_from at forms)
