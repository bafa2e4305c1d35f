-- Forms of items: their sizes, their labels, and lists of them one after the other.
use Rattle.std.proofs.Common.{◌≡◌, ℕ, ◌+◌, ◌≤◌, Bool, true, false, not, ◌||◌, List, [], ◌∷◌, ◌++◌, Option, Some, None, refl}
use Rattle.std.proofs.Common.{sym, ap, ◌∙◌, subst, arith, add_assoc, append_assoc, true≢false, is_some, map, if◌then◌else◌}
use Rattle.std.specs.List.{list_all}
use Rattle.std.proofs.lemmas.List.{append-nil}
use Rattle.std.proofs.lemmas.Bool.{and_parts, or_parts}
use Rattle.tb_opcodes.specs.declared.Mnemonic.{Mnemonic}
use Rattle.tb_asm.specs.declared.names.Name.{Name}
use Rattle.tb_opcodes.specs.declared.Mode.TheVariants.{Relative}
use Rattle.tb_asm.specs.declared.items.Operand.TheVariants.{Label}
use Rattle.tb_asm.specs.Layout.{Entry, instr, size_of, size}
use Rattle.tb_asm.specs.Settle.{Form, kept, long, branch_to, items_at, items_from, form_size, form_far, is_far, long_of, lengthened, widen, round, round_labels}
use Rattle.tb_asm.specs.Settle.{Settles, done, more, SettlesTo, some_branch_far, AllReach}
use Rattle.tb_asm.specs.Suited.{name_at, names_of}
use Rattle.tb_asm.proofs.Suits.{names_append}
use Rattle.tb_asm.proofs.RoundLabels.{size_at}
use Rattle.tb_assembly_settling.specs.Settled.{IsFormOf, AreFormsOf, IsSettled, most_of, most}

-- ---- a branch to a label, by what it is
from_branch : Entry → Option (Mnemonic × Name) → Entry
from_branch e None = e
from_branch e (Some b) = instr b.0 Relative (Label b.1)

back : (e : Entry) → from_branch e (branch_to e) ≡ e
unfolding from_branch
back (instr n Relative (Label l)) = refl
back e = refl

-- a branch to a label is an instruction in the mode Relative with that label
pub is_branch : (e : Entry) (n : Mnemonic) (l : Name) → branch_to e ≡ Some (n, l) → e ≡ instr n Relative (Label l)
unfolding from_branch
is_branch e n l h = sym (back e) ∙ ap (from_branch e) h

-- ---- what settling makes
pub kept_forms : (es : List Entry) → AreFormsOf es (map kept es)
kept_forms [] = tt
kept_forms (e ∷ es) = (refl, kept_forms es)

lengthened_form : (e : Entry) (f : Form) → IsFormOf e f → IsFormOf e (lengthened f)
lengthened_form e (kept k) h = by (branch_to k) refl
  where
    by : (o : Option (Mnemonic × Name)) → branch_to k ≡ o → IsFormOf e (long_of o k)
    by None q = h
    by (Some b) q = ap branch_to (sym h) ∙ q
lengthened_form e (long n l) h = h

widened_form : (b : Bool) (e : Entry) (f : Form) → IsFormOf e f → IsFormOf e (if b then lengthened f else f)
widened_form true e f h = lengthened_form e f h
widened_form false e f h = h

widened_forms : (labels : List (Name × ℕ)) (a : ℕ) (es : List Entry) (fs : List Form) → AreFormsOf es fs → AreFormsOf es (widen labels a fs)
widened_forms labels a [] [] h = tt
widened_forms labels a [] (f ∷ fs) h = absurd h
widened_forms labels a (e ∷ es) [] h = absurd h
widened_forms labels a (e ∷ es) (f ∷ fs) h = (widened_form (form_far labels a f) e f h.0, widened_forms labels (a + form_size f) es fs h.1)

-- the forms after all rounds are forms of the same items
pub settled_forms : (at : ℕ) (es : List Entry) (fs gs : List Form) → Settles at fs gs → AreFormsOf es fs → AreFormsOf es gs
settled_forms at es fs gs (done hs near) h = h
settled_forms at es fs gs (more hs ks far rest) h = settled_forms at es (round at hs) ks rest (widened_forms (round_labels at hs) at es hs h)

-- what rounds lead to is settled
pub settled_by : (at : ℕ) (es items : List Entry) → SettlesTo at es items → AllReach at items → IsSettled at es items
settled_by at es items s reach = record {
  forms = s.forms;
  of = settled_forms at es (map kept es) s.forms s.settled (kept_forms es);
  are = s.are;
  reach = reach;
}

-- ---- sizes
abbrev pub forms_size : List Form → ℕ
forms_size [] = 0
forms_size (f ∷ fs) = form_size f + forms_size fs

-- items kept as they are have their own size
pub kept_size : (es : List Entry) → forms_size (map kept es) ≡ size es
kept_size [] = refl
kept_size (e ∷ es) = ap (λ n. size_of e + n) (kept_size es)

-- the size of two lists of items is the sum of both
pub size_append : (xs ys : List Entry) → size (xs ++ ys) ≡ size xs + size ys
size_append [] ys = omega arith
size_append (x ∷ xs) ys = ap (λ n. size_of x + n) (size_append xs ys) ∙ sym (add_assoc (size_of x) (size xs) (size ys))

-- the items of forms have the size of the forms
pub items_size : (a : ℕ) (fs : List Form) → size (items_from a fs) ≡ forms_size fs
items_size a [] = refl
items_size a (f ∷ fs) = size_append (items_at a f) (items_from (a + form_size f) fs) ∙ (λ i. size_at a f i + items_size (a + form_size f) fs i)

item_most : (e : Entry) (o : Option (Mnemonic × Name)) → branch_to e ≡ o → size_of e ≤ (if is_some o then 5 else size_of e)
item_most e None h = omega arith
item_most e (Some b) h = let two : size_of e ≡ 2 = ap size_of (is_branch e b.0 b.1 h) in omega (arith, two)

form_most : (e : Entry) (f : Form) → IsFormOf e f → form_size f ≤ most_of e
form_most e (kept k) h = subst (λ x. size_of x ≤ most_of e) (sym h) (item_most e (branch_to e) refl)
form_most e (long n l) h = let five : most_of e ≡ 5 = ap (λ o. if is_some o then 5 else size_of e) h in omega (arith, five)

-- forms take at most as many bytes as their items can take
pub forms_most : (es : List Entry) (fs : List Form) → AreFormsOf es fs → forms_size fs ≤ most es
forms_most [] [] h = omega arith
forms_most [] (f ∷ fs) h = absurd h
forms_most (e ∷ es) [] h = absurd h
forms_most (e ∷ es) (f ∷ fs) h = let a = form_most e f h.0 in let b = forms_most es fs h.1 in omega (arith, a, b)

-- two lists of items take at most the sum of what both can take
pub most_append : (xs ys : List Entry) → most (xs ++ ys) ≡ most xs + most ys
most_append [] ys = omega arith
most_append (x ∷ xs) ys = ap (λ n. most_of x + n) (most_append xs ys) ∙ sym (add_assoc (most_of x) (most xs) (most ys))

-- ---- one list after the other
pub forms_append : (fs gs : List Form) → forms_size (fs ++ gs) ≡ forms_size fs + forms_size gs
forms_append [] gs = omega arith
forms_append (f ∷ fs) gs = ap (λ n. form_size f + n) (forms_append fs gs) ∙ sym (add_assoc (form_size f) (forms_size fs) (forms_size gs))

-- the items of two lists of forms are those of the first and then those of the second
pub items_append : (a : ℕ) (fs gs : List Form) → items_from a (fs ++ gs) ≡ items_from a fs ++ items_from (a + forms_size fs) gs
items_append a [] gs = ap (λ n. items_from n gs) (let e : a ≡ a + 0 = omega arith in e)
items_append a (f ∷ fs) gs =
    ap (λ t. items_at a f ++ t) (items_append (a + form_size f) fs gs)
    ∙ sym (append_assoc (items_at a f) (items_from (a + form_size f) fs) (items_from (a + form_size f + forms_size fs) gs))
    ∙ ap (λ n. (items_at a f ++ items_from (a + form_size f) fs) ++ items_from n gs) (add_assoc a (form_size f) (forms_size fs))

-- the forms of two lists are those of the first and then those of the second
pub record Split (xs ys : List Entry) (forms : List Form) : Type 0 where
  pub front : List Form
  pub back : List Form
  pub are : forms ≡ front ++ back
  pub of_front : AreFormsOf xs front
  pub of_back : AreFormsOf ys back

-- forms of two lists of items are those of the first and then those of the second
pub split : (xs ys : List Entry) (fs : List Form) → AreFormsOf (xs ++ ys) fs → Split xs ys fs
split [] ys fs h = record { front = []; back = fs; are = refl; of_front = tt; of_back = h }
split (x ∷ xs) ys [] h = absurd h
split (x ∷ xs) ys (f ∷ fs) h =
    let s = split xs ys fs h.1 in
    record { front = f ∷ s.front; back = s.back; are = ap (λ t. f ∷ t) s.are; of_front = (h.0, s.of_front); of_back = s.of_back }

-- if all branches of two lists reach their labels, those of each do
pub near_split : (labels : List (Name × ℕ)) (a : ℕ) (xs ys : List Entry) → some_branch_far labels a (xs ++ ys) ≡ false
    → (some_branch_far labels a xs ≡ false) × (some_branch_far labels (a + size xs) ys ≡ false)
near_split labels a [] ys h = (refl, ap (λ n. some_branch_far labels n ys) (let e : a + 0 ≡ a = omega arith in e) ∙ h)
near_split labels a (x ∷ xs) ys h =
    let here = or_parts (is_far labels a x) (some_branch_far labels (a + size_of x) (xs ++ ys)) h in
    let rest = near_split labels (a + size_of x) xs ys here.1 in
    ((λ i. here.0 i || rest.0 i), ap (λ n. some_branch_far labels n ys) (sym (add_assoc a (size_of x) (size xs))) ∙ rest.1)

-- ---- names
form_names : (a : ℕ) (e : Entry) (f : Form) → IsFormOf e f → names_of (items_at a f) ≡ name_at e
form_names a e (kept k) h = append-nil (name_at k) ∙ ap name_at h
form_names a e (long n l) h = ap name_at (sym (is_branch e n l h))

-- settled items have the same labels, in the same order
pub items_names : (a : ℕ) (es : List Entry) (fs : List Form) → AreFormsOf es fs → names_of (items_from a fs) ≡ names_of es
items_names a [] [] h = refl
items_names a [] (f ∷ fs) h = absurd h
items_names a (e ∷ es) [] h = absurd h
items_names a (e ∷ es) (f ∷ fs) h =
    names_append (items_at a f) (items_from (a + form_size f) fs) ∙ (λ i. form_names a e f h.0 i ++ items_names (a + form_size f) es fs h.1 i)

-- ---- items without a branch to a label
abbrev pub is_straight : Entry → Bool
is_straight e = not (is_some (branch_to e))

-- an item that is no branch to a label has one form, itself
pub straight_form : (e : Entry) (f : Form) → is_straight e ≡ true → IsFormOf e f → f ≡ kept e
straight_form e (kept k) s h = ap kept h
straight_form e (long n l) s h = absurd (true≢false (sym s ∙ ap (λ o. not (is_some o)) h))

-- items without a branch to a label are settled as they are
pub straight_forms : (es : List Entry) (fs : List Form) → list_all is_straight es ≡ true → AreFormsOf es fs → fs ≡ map kept es
straight_forms [] [] s h = refl
straight_forms [] (f ∷ fs) s h = absurd h
straight_forms (e ∷ es) [] s h = absurd h
straight_forms (e ∷ es) (f ∷ fs) s h =
    let t = and_parts (is_straight e) (list_all is_straight es) s in
    λ i. straight_form e f t.0 h.0 i ∷ straight_forms es fs t.1 h.1 i
