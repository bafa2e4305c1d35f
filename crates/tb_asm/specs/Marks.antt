-- The rounds of settling as the code keeps them: a mark for each item, whether two items replace it.
use Rattle.std.specs.Prelude.{◌≡◌, ℕ, ◌+◌, ◌%◌, Bool, true, false, not, ◌&&◌, ◌||◌, Option, Some, None, option_map, List, [], ◌∷◌, ◌++◌, map, Result, Ok, Err}
use Rattle.tb_asm.specs.declared.names.Name.{Name}
use Rattle.tb_asm.specs.declared.items.Item.{Item}
use Rattle.tb_asm.specs.declared.errors.AsmErrorKind.{AsmErrorKind}
use Rattle.tb_asm.specs.declared.errors.AsmErrorKind.TheVariants.{UnknownLabel, NoMemory}
use Rattle.tb_asm.specs.Layout.{Entry, entry_of, address_in, label_at, first_fault}
use Rattle.tb_asm.specs.Settle.{Form, kept, lengthened, form_size, is_far, unknown_fault, SettleRefuses}

-- the form of an item by its mark: a marked branch to a label is two items, any other item is as it is
abbrev pub form_of : Bool → Entry → Form
form_of false e = kept e
form_of true e = lengthened (kept e)

-- the forms of items by their marks, as far as there are marks
abbrev pub forms_of : List Entry → List Bool → List Form
forms_of [] bs = []
forms_of (e ∷ es) [] = []
forms_of (e ∷ es) (b ∷ bs) = form_of b e ∷ forms_of es bs

-- the marks after a round by some labels
abbrev pub marks_from : List (Name × ℕ) → ℕ → List Entry → List Bool → List Bool
marks_from labels a [] bs = []
marks_from labels a (e ∷ es) [] = []
marks_from labels a (e ∷ es) (b ∷ bs) = (b || is_far labels a e) ∷ marks_from labels (a + form_size (form_of b e)) es bs

-- whether a round by some labels marks an item that had no mark
abbrev pub new_mark : List (Name × ℕ) → ℕ → List Entry → List Bool → Bool
new_mark labels a [] bs = false
new_mark labels a (e ∷ es) [] = false
new_mark labels a (e ∷ es) (b ∷ bs) = (not b && is_far labels a e) || new_mark labels (a + form_size (form_of b e)) es bs

-- an address modulo 65,536, if there is one
abbrev pub wrapped : Option ℕ → Option ℕ
wrapped o = option_map (λ a. a % 65536) o

-- each name has in `found` its address in `labels` modulo 65,536, or none if it has none there
abbrev pub FoundAs : List (Name × ℕ) → List (Name × ℕ) → Type 0
FoundAs found labels = (n : Name) → address_in found n ≡ wrapped (address_in labels n)

-- what is found first, or else what is found next
abbrev pub or_found : Option ℕ → Option ℕ → Option ℕ
or_found None next = next
or_found (Some a) next = Some a

-- a label is added if no earlier item has it
abbrev pub AddsLabel : List (Name × ℕ) → ℕ → Entry → List (Name × ℕ) → Type 0
AddsLabel old a e new = (n : Name) → address_in new n ≡ or_found (address_in old n) (address_in (label_at a e) n)

-- items are put after the others, unless memory is short
abbrev pub PushesEntries : {U : Type 0} → List Item → List Entry → Result U AsmErrorKind → List Item → Type 0
PushesEntries old es (Ok u) new = map entry_of new ≡ map entry_of old ++ es
PushesEntries old es (Err k) new = k ≡ NoMemory

-- a refusal of settling; out of memory names item 0
abbrev pub SettleErr : ℕ → List Entry → AsmErrorKind → ℕ → Type 0
SettleErr at es NoMemory i = i ≡ 0
SettleErr at es k i = SettleRefuses at es k i

-- the first item with an unknown label
abbrev pub UnknownAt : List (Name × ℕ) → List Entry → Option ℕ → Type 0
UnknownAt labels es None = first_fault (λ before e. unknown_fault labels e) [] es ≡ None
UnknownAt labels es (Some i) = first_fault (λ before e. unknown_fault labels e) [] es ≡ Some (UnknownLabel, i)
