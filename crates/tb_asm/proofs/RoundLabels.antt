-- The labels of a round, and the other loops over forms.
use Rattle.std.proofs.Common.{◌≡◌, ℕ, map, ◌+◌, ◌%◌, ◌<◌, ◌≤◌, Bool, true, false, List, [], ◌∷◌, ◌++◌, Option, Some, None}
use Rattle.std.proofs.Common.{refl, sym, ap, ◌∙◌, cond, arith, Result, Ok, Err, length, drop, get_or, append_assoc, subst, is_some, if◌then◌else◌}
use Rattle.std.specs.Prelude.{MatchResult, OnOk, IfErr}
use Rattle.std.proofs.Math.ListN.{drop_of_length-le}
use Rattle.tb_opcodes.specs.declared.Mnemonic.{Mnemonic}
use Rattle.tb_opcodes.specs.declared.Mnemonic.TheVariants.{Jmp}
use Rattle.tb_opcodes.specs.declared.Mode.TheVariants.{Relative, Absolute}
use Rattle.std.proofs.lemmas.List.{append-nil}
use Rattle.tb_asm.specs.declared.items.Operand.TheVariants.{Word, Label}
use Rattle.tb_asm.specs.declared.names.Name.{Name}
use Rattle.tb_asm.specs.Layout.{Entry, entry_of, instr, label, bytes, word, size, label_at, labels_from, address_in, same_name, twice}
use Rattle.tb_asm.specs.Assembled.{Refuses}
use Rattle.tb_asm.specs.Settle.{Form, kept, long, inverse, branch_to, items_at, items_from, form_size, long_of, round_labels}
use Rattle.tb_asm.specs.Marks.{form_of, forms_of, or_found, wrapped, AddsLabel, PushesEntries}
use Rattle.tb_asm.specs.declared.items.Item.{Item}
use Rattle.tb_asm.specs.declared.errors.AsmErrorKind.{AsmErrorKind}
use Rattle.tb_asm.specs.declared.errors.AsmErrorKind.TheVariants.{NoSuchMode, UnknownLabel, LabelTwice, BranchOutOfRange, RunsPast, IndirectAtPageEnd, NoMemory}
use Rattle.tb_asm.proofs.Passes.{behind, here}
use Rattle.tb_asm.proofs.Rounds.{marks_here}
use Rattle.tb_asm.proofs.Laws.{labels_append}

-- the labels of a form at an address
pub labels_of_form : ℕ → Form → List (Name × ℕ)
labels_of_form a (kept e) = label_at a e
labels_of_form a (long n l) = []

-- the labels of forms laid from an address
pub labels_in : ℕ → List Form → List (Name × ℕ)
labels_in a [] = []
labels_in a (f ∷ fs) = labels_of_form a f ++ labels_in (a + form_size f) fs

form_labels : (a : ℕ) (f : Form) → labels_from a (items_at a f) ≡ labels_of_form a f
unfolding labels_of_form
form_labels a (kept e) = append-nil (label_at a e)
form_labels a (long n l) = refl

-- the items of a form have the form's size
pub size_at : (a : ℕ) (f : Form) → size (items_at a f) ≡ form_size f
size_at a (kept e) = omega arith
size_at a (long n l) = refl

-- the labels of the items of forms are those of the forms
pub labels_are : (a : ℕ) (fs : List Form) → labels_from a (items_from a fs) ≡ labels_in a fs
unfolding labels_in
labels_are a [] = refl
labels_are a (f ∷ fs) =
    labels_append a (items_at a f) (items_from (a + form_size f) fs)
    ∙ (λ i. form_labels a f i ++ labels_from (a + size_at a f i) (items_from (a + form_size f) fs))
    ∙ ap (λ ls. labels_of_form a f ++ ls) (labels_are (a + form_size f) fs)

or_found_assoc : (x y z : Option ℕ) → or_found (or_found x y) z ≡ or_found x (or_found y z)
or_found_assoc None y z = refl
or_found_assoc (Some a) y z = refl

wrapped_or : (x y : Option ℕ) → wrapped (or_found x y) ≡ or_found (wrapped x) (wrapped y)
wrapped_or None y = refl
wrapped_or (Some a) y = refl

found_append : (xs ys : List (Name × ℕ)) (n : Name) → address_in (xs ++ ys) n ≡ or_found (address_in xs n) (address_in ys n)
found_append [] ys n = refl
found_append (p ∷ xs) ys n = by (same_name n p.0) (found_append xs ys n)
  where
    by : (b : Bool) → address_in (xs ++ ys) n ≡ or_found (address_in xs n) (address_in ys n)
        → cond b (Some p.1) (address_in (xs ++ ys) n) ≡ or_found (cond b (Some p.1) (address_in xs n)) (address_in ys n)
    by true h = refl
    by false h = h

label_wraps : (a b : ℕ) (e : Entry) (n : Name) → a ≡ b % 65536 → address_in (label_at a e) n ≡ wrapped (address_in (label_at b e) n)
label_wraps a b (instr m d o) n h = refl
label_wraps a b (bytes bs) n h = refl
label_wraps a b (word o) n h = refl
label_wraps a b (label l) n h = by (same_name n l)
  where
    by : (s : Bool) → cond s (Some a) None ≡ wrapped (cond s (Some b) None)
    by true = ap Some h
    by false = refl

-- a long form's item has no label
form_label : (a : ℕ) (b : Bool) (e : Entry) → labels_of_form a (form_of b e) ≡ label_at a e
unfolding labels_of_form
form_label a false e = refl
form_label a true (label l) = refl
form_label a true (bytes bs) = refl
form_label a true (word o) = refl
form_label a true (instr m d o) = by (branch_to (instr m d o))
  where
    by : (p : Option (Mnemonic × Name)) → labels_of_form a (long_of p (instr m d o)) ≡ []
    by None = refl
    by (Some q) = refl

pub record PlacesTo (fs : List Form) (found : List (Name × ℕ)) (address : ℕ) (all : List (Name × ℕ)) : Type 0 where
  pub place : ℕ
  pub address_is : address ≡ place % 65536
  pub finds : (n : Name) → or_found (address_in found n) (wrapped (address_in (labels_in place fs) n)) ≡ wrapped (address_in all n)

-- the loop that places labels begins with none
pub places_none : (at : ℕ) (fs : List Form) → at ≡ at % 65536 → PlacesTo fs [] at (round_labels at fs)
places_none at fs h = record { place = at; address_is = h; finds = λ n. ap (λ ls. wrapped (address_in ls n)) (sym (labels_are at fs)) }

-- the loop that places labels goes on over a form
pub places_more : (b : Bool) (e : Entry) (fs : List Form) (found new : List (Name × ℕ)) (address end : ℕ) {all : List (Name × ℕ)}
    → PlacesTo (form_of b e ∷ fs) found address all
    → ((n : Name) → address_in new n ≡ or_found (address_in found n) (address_in (label_at address e) n))
    → end ≡ (address + form_size (form_of b e)) % 65536
    → PlacesTo fs new end all
unfolding labels_in
places_more b e fs found new address end {all} p added ends =
    let k = form_size (form_of b e) in
    let is : address ≡ p.place % 65536 = p.address_is in
    let rest : List (Name × ℕ) = labels_in (p.place + k) fs in
    record {
      place = p.place + k;
      address_is = ends ∙ (let w : (address + k) % 65536 ≡ (p.place + k) % 65536 = omega arith in w);
      finds = λ n.
          ap (λ o. or_found o (wrapped (address_in rest n))) (added n)
          ∙ or_found_assoc (address_in found n) (address_in (label_at address e) n) (wrapped (address_in rest n))
          ∙ ap (λ o. or_found (address_in found n) (or_found o (wrapped (address_in rest n)))) (label_wraps address p.place e n is)
          ∙ ap (or_found (address_in found n)) (sym (wrapped_or (address_in (label_at p.place e) n) (address_in rest n)))
          ∙ ap (λ o. or_found (address_in found n) (wrapped o)) (sym (found_append (label_at p.place e) rest n))
          ∙ ap (λ ls. or_found (address_in found n) (wrapped (address_in (ls ++ rest) n))) (sym (form_label p.place b e))
          ∙ p.finds n;
    }

or_found_none : (o : Option ℕ) → o ≡ or_found o None
or_found_none None = refl
or_found_none (Some a) = refl

-- after the last form each label of the round is found, modulo 65,536
pub places_done : (found : List (Name × ℕ)) (address : ℕ) (all : List (Name × ℕ)) → PlacesTo [] found address all → (n : Name) → address_in found n ≡ wrapped (address_in all n)
unfolding labels_in
places_done found address all p n = or_found_none (address_in found n) ∙ p.finds n

-- the items of the forms taken so far, before those of the rest
pub record BuildsTo (fs : List Form) (built : List Entry) (address : ℕ) (all : List Entry) : Type 0 where
  pub place : ℕ
  pub address_is : address ≡ place % 65536
  pub items : built ++ items_from place fs ≡ all

items_wrap : (a b : ℕ) (f : Form) → a ≡ b % 65536 → items_at a f ≡ items_at b f
items_wrap a b (kept e) h = refl
items_wrap a b (long n l) h =
    let w : (a + 5) % 65536 ≡ (b + 5) % 65536 = omega arith in
    λ i. instr (inverse n) Relative (Word (w i)) ∷ instr Jmp Absolute (Label l) ∷ []

-- the loop that builds the items goes on over a form
pub builds_more : (f : Form) (fs : List Form) (built new : List Entry) (address end : ℕ) {all : List Entry} → BuildsTo (f ∷ fs) built address all
    → new ≡ built ++ items_at address f → end ≡ (address + form_size f) % 65536 → BuildsTo fs new end all
builds_more f fs built new address end {all} p grown ends =
    let is : address ≡ p.place % 65536 = p.address_is in
    record {
      place = p.place + form_size f;
      address_is = ends ∙ (let w : (address + form_size f) % 65536 ≡ (p.place + form_size f) % 65536 = omega arith in w);
      items = ap (λ t. t ++ items_from (p.place + form_size f) fs) (grown ∙ ap (λ t. built ++ t) (items_wrap address p.place f is))
          ∙ append_assoc built (items_at p.place f) (items_from (p.place + form_size f) fs) ∙ p.items;
    }

-- a label is added to those that are found
only_memory : (k : AsmErrorKind) → Refuses None k → k ≡ NoMemory
only_memory NoMemory h = refl
only_memory NoSuchMode h = cc
only_memory LabelTwice h = cc
only_memory RunsPast h = cc
only_memory UnknownLabel h = cc
only_memory BranchOutOfRange h = cc
only_memory IndirectAtPageEnd h = cc

-- a new label is refused only if memory runs out
pub added_by : {U : Type 0} (old new : List (Name × ℕ)) (a : ℕ) (n : Name) (r : Result U AsmErrorKind) → false ≡ is_some (address_in old n)
    → OnOk r ((address_in old n ≡ None) × (new ≡ old ++ (n, a) ∷ [])) → IfErr r (λ k. Refuses (twice old n) k)
    → MatchResult r (λ _. AddsLabel old a (label n) new) (λ k. k ≡ NoMemory)
added_by old new a n (Ok u) fresh h q = λ m. ap (λ ls. address_in ls m) h.1 ∙ found_append old (label_at a (label n)) m
added_by old new a n (Err k) fresh h q = only_memory k (subst (λ t. Refuses t k) (ap (λ t. if t then Some LabelTwice else None) (sym fresh)) q)

-- from the place after the last item on there are no items
pub behind_none : (items : List Item) (i : ℕ) → length items ≤ i → behind items i ≡ []
behind_none items i l = ap (map entry_of) (drop_of_length-le items l)

-- the forms from the item at i on
pub forms_here : (items : List Item) (bs : List Bool) (i : ℕ) (item : Item) → i < length items → item ≡ get_or items i item → i < length bs
    → forms_of (behind items i) (drop i bs) ≡ form_of (get_or bs i false) (entry_of item) ∷ forms_of (behind items (i + 1)) (drop (i + 1) bs)
forms_here items bs i item l is m = λ j. forms_of (here 0 items i item l is j) (marks_here bs i m j)

-- items pushed twice in turn are pushed as one list
pub pushes_two : {U : Type 0} (old mid new : List Item) (xs ys : List Entry) (r : Result U AsmErrorKind)
    → map entry_of mid ≡ map entry_of old ++ xs → PushesEntries mid ys r new → PushesEntries old (xs ++ ys) r new
pushes_two old mid new xs ys (Ok u) h p = p ∙ ap (λ t. t ++ ys) h ∙ append_assoc (map entry_of old) xs ys
pushes_two old mid new xs ys (Err k) h p = p
