-- The labels of a program's code: those that polls branch to rise, and so do all others between them. So no label is
-- there twice, and each gives its own address.
use Rattle.std.proofs.Common.{◌≡◌, ◌⊎◌, ℕ, ◌+◌, ◌<◌, ◌≤◌, Bool, true, false, List, [], ◌∷◌, ◌++◌, refl, sym, ap}
use Rattle.std.proofs.Common.{◌∙◌, arith, inl, inr, Some, None, subst, append_assoc, cond}
use Rattle.std.specs.Prelude.{◌||◌}
use Rattle.std.specs.List.{list_any}
use lib.Pointwise.{bytes_decides}
use Rattle.tb_asm.specs.declared.names.Name.{Name}
use Rattle.tb_asm.specs.Layout.{Entry, instr, label, bytes, word, size, size_of, label_at, labels_from, same_name, address_in}
use Rattle.tb_asm.specs.Suited.{names_of, AreDistinct}
use Rattle.tb_asm.proofs.Faults.{size_push, labels_push}
use Rattle.tb_asm.proofs.Laws.{label_stands}
use Rattle.tb_compiler_program.specs.Layout.{LabelsAt}
use Rattle.tb_compiler_templates.proofs.Rising.{key, key_of, base, Rising}

-- where the numbers of lines' labels begin; those that polls branch to lie below
abbrev pub lowest : ℕ
lowest = base 0 0

-- the labels of a list rise from two numbers on, those below the lines' labels from the second one
abbrev pub Woven : ℕ → ℕ → List Entry → Type 0
Woven low breaks [] = Unit {0}
Woven low breaks (instr n m o ∷ es) = Woven low breaks es
Woven low breaks (label n ∷ es) = ((lowest ≤ key_of n) × (low ≤ key_of n) × Woven (key_of n + 1) breaks es) ⊎ ((key_of n < lowest) × (breaks ≤ key_of n) × Woven low (key_of n + 1) es)
Woven low breaks (bytes bs ∷ es) = Woven low breaks es
Woven low breaks (word o ∷ es) = Woven low breaks es

-- labels that rise from two numbers rise from any lower ones
pub woven_lower : (low low' breaks breaks' : ℕ) (es : List Entry) → low ≤ low' → breaks ≤ breaks' → Woven low' breaks' es → Woven low breaks es
woven_lower low low' breaks breaks' [] l k h = tt
woven_lower low low' breaks breaks' (instr n m o ∷ es) l k h = woven_lower low low' breaks breaks' es l k h
woven_lower low low' breaks breaks' (label n ∷ es) l k (inl h) = inl (h.0, omega (arith, l, h.1), woven_lower (key_of n + 1) (key_of n + 1) breaks breaks' es (omega arith) k h.2)
woven_lower low low' breaks breaks' (label n ∷ es) l k (inr h) = inr (h.0, omega (arith, k, h.1), woven_lower low low' (key_of n + 1) (key_of n + 1) es l (omega arith) h.2)
woven_lower low low' breaks breaks' (bytes bs ∷ es) l k h = woven_lower low low' breaks breaks' es l k h
woven_lower low low' breaks breaks' (word o ∷ es) l k h = woven_lower low low' breaks breaks' es l k h

-- the labels of lines before others
pub rising_woven : (low middle breaks : ℕ) (xs ys : List Entry) → lowest ≤ low → Rising low xs middle → Woven middle breaks ys → Woven low breaks (xs ++ ys)
rising_woven low middle breaks [] ys l h k = woven_lower low middle breaks breaks ys h (omega arith) k
rising_woven low middle breaks (instr n m o ∷ xs) ys l h k = rising_woven low middle breaks xs ys l h k
rising_woven low middle breaks (label n ∷ xs) ys l h k = inl (omega (arith, l, h.0), h.0, rising_woven (key_of n + 1) middle breaks xs ys (omega (arith, l, h.0)) h.1 k)
rising_woven low middle breaks (bytes bs ∷ xs) ys l h k = rising_woven low middle breaks xs ys l h k
rising_woven low middle breaks (word o ∷ xs) ys l h k = rising_woven low middle breaks xs ys l h k

-- ── labels before and after ──
-- a number that no label has from these two on, and one that no label has below them
abbrev IsFrom : ℕ → ℕ → ℕ → Type 0
IsFrom low breaks k = ((lowest ≤ k) × (low ≤ k)) ⊎ ((k < lowest) × (breaks ≤ k))

abbrev IsBelow : ℕ → ℕ → ℕ → Type 0
IsBelow low breaks k = ((lowest ≤ k) × (k < low)) ⊎ ((k < lowest) × (k < breaks))

from_lower : (low low' breaks breaks' k : ℕ) → low ≤ low' → breaks ≤ breaks' → IsFrom low' breaks' k → IsFrom low breaks k
from_lower low low' breaks breaks' k l m (inl h) = inl (h.0, omega (arith, l, h.1))
from_lower low low' breaks breaks' k l m (inr h) = inr (h.0, omega (arith, m, h.1))

below_more : (low low' breaks breaks' k : ℕ) → low ≤ low' → breaks ≤ breaks' → IsBelow low breaks k → IsBelow low' breaks' k
below_more low low' breaks breaks' k l m (inl h) = inl (h.0, omega (arith, l, h.1))
below_more low low' breaks breaks' k l m (inr h) = inr (h.0, omega (arith, m, h.1))

differ : (low breaks j k : ℕ) → IsBelow low breaks j → IsFrom low breaks k → j ≡ k → ⊥
differ low breaks j k (inl h) (inl g) e = omega (arith, h.1, g.1, e)
differ low breaks j k (inl h) (inr g) e = omega (arith, h.0, g.0, e)
differ low breaks j k (inr h) (inl g) e = omega (arith, h.0, g.0, e)
differ low breaks j k (inr h) (inr g) e = omega (arith, h.1, g.1, e)

same_key : (n m : Name) → same_name n m ≡ true → key_of n ≡ key_of m
same_key n m e = ap key ((bytes_decides n.letters.items m.letters.items).0 e)

other : (n m : Name) → (key_of n ≡ key_of m → ⊥) → same_name n m ≡ false
other n m unlike = by (same_name n m) refl
  where
    by : (t : Bool) → same_name n m ≡ t → t ≡ false
    by true e = absurd (unlike (same_key n m e))
    by false e = refl

-- ── no name is there twice ──
abbrev AreFrom : ℕ → ℕ → List Name → Type 0
AreFrom low breaks [] = Unit {0}
AreFrom low breaks (n ∷ ns) = IsFrom low breaks (key_of n) × AreFrom low breaks ns

all_lower : (low low' breaks breaks' : ℕ) (ns : List Name) → low ≤ low' → breaks ≤ breaks' → AreFrom low' breaks' ns → AreFrom low breaks ns
all_lower low low' breaks breaks' [] l k h = tt
all_lower low low' breaks breaks' (n ∷ ns) l k h = (from_lower low low' breaks breaks' (key_of n) l k h.0, all_lower low low' breaks breaks' ns l k h.1)

names_from : (low breaks : ℕ) (es : List Entry) → Woven low breaks es → AreFrom low breaks (names_of es)
names_from low breaks [] r = tt
names_from low breaks (instr n m o ∷ es) r = names_from low breaks es r
names_from low breaks (label n ∷ es) (inl r) = (inl (r.0, r.1), all_lower low (key_of n + 1) breaks breaks (names_of es) (omega (arith, r.1)) (omega arith) (names_from (key_of n + 1) breaks es r.2))
names_from low breaks (label n ∷ es) (inr r) = (inr (r.0, r.1), all_lower low low breaks (key_of n + 1) (names_of es) (omega arith) (omega (arith, r.1)) (names_from low (key_of n + 1) es r.2))
names_from low breaks (bytes bs ∷ es) r = names_from low breaks es r
names_from low breaks (word o ∷ es) r = names_from low breaks es r

none_of : (low breaks : ℕ) (n : Name) (ns : List Name) → IsBelow low breaks (key_of n) → AreFrom low breaks ns → list_any (same_name n) ns ≡ false
none_of low breaks n [] b h = refl
none_of low breaks n (m ∷ ns) b h = ap (λ t. t || list_any (same_name n) ns) (other n m (differ low breaks (key_of n) (key_of m) b h.0)) ∙ none_of low breaks n ns b h.1

-- labels that rise are distinct
pub distinct : (low breaks : ℕ) (es : List Entry) → Woven low breaks es → AreDistinct (names_of es)
distinct low breaks [] r = tt
distinct low breaks (instr n m o ∷ es) r = distinct low breaks es r
distinct low breaks (label n ∷ es) (inl r) = (none_of (key_of n + 1) breaks n (names_of es) (inl (r.0, omega arith)) (names_from (key_of n + 1) breaks es r.2), distinct (key_of n + 1) breaks es r.2)
distinct low breaks (label n ∷ es) (inr r) = (none_of low (key_of n + 1) n (names_of es) (inr (r.0, omega arith)) (names_from low (key_of n + 1) es r.2), distinct low (key_of n + 1) es r.2)
distinct low breaks (bytes bs ∷ es) r = distinct low breaks es r
distinct low breaks (word o ∷ es) r = distinct low breaks es r

-- ── each label gives its address ──
abbrev AreBelow : ℕ → ℕ → List (Name × ℕ) → Type 0
AreBelow low breaks [] = Unit {0}
AreBelow low breaks (p ∷ ps) = IsBelow low breaks (key_of p.0) × AreBelow low breaks ps

all_more : (low low' breaks breaks' : ℕ) (ps : List (Name × ℕ)) → low ≤ low' → breaks ≤ breaks' → AreBelow low breaks ps → AreBelow low' breaks' ps
all_more low low' breaks breaks' [] l k h = tt
all_more low low' breaks breaks' (p ∷ ps) l k h = (below_more low low' breaks breaks' (key_of p.0) l k h.0, all_more low low' breaks breaks' ps l k h.1)

below_append : (low breaks : ℕ) (ps qs : List (Name × ℕ)) → AreBelow low breaks ps → AreBelow low breaks qs → AreBelow low breaks (ps ++ qs)
below_append low breaks [] qs h k = k
below_append low breaks (p ∷ ps) qs h k = (h.0, below_append low breaks ps qs h.1 k)

absent : (low breaks : ℕ) (n : Name) (ps : List (Name × ℕ)) → IsFrom low breaks (key_of n) → AreBelow low breaks ps → address_in ps n ≡ None
absent low breaks n [] f h = refl
absent low breaks n (p ∷ ps) f h = ap (λ t. cond t (Some p.1) (address_in ps n)) (other n p.0 (λ e. differ low breaks (key_of p.0) (key_of n) h.0 f (sym e))) ∙ absent low breaks n ps f h.1

below_label : (at low breaks : ℕ) (before : List Entry) (e : Entry) → AreBelow low breaks (labels_from at before)
    → AreBelow low breaks (label_at (at + size before) e) → AreBelow low breaks (labels_from at (before ++ e ∷ []))
below_label at low breaks before e b h = subst (AreBelow low breaks) (sym (labels_push at before e)) (below_append low breaks (labels_from at before) (label_at (at + size before) e) b h)

moved : (at : ℕ) (before : List Entry) (e : Entry) (es : List Entry)
    → LabelsAt (labels_from at ((before ++ e ∷ []) ++ es)) (at + size (before ++ e ∷ [])) es → LabelsAt (labels_from at (before ++ e ∷ es)) (at + size before + size_of e) es
moved at before e es h =
    let k : at + size (before ++ e ∷ []) ≡ at + size before + size_of e = (let q = size_push before e in omega (arith, q)) in
    subst (λ a. LabelsAt (labels_from at (before ++ e ∷ es)) a es) k (subst (λ l. LabelsAt (labels_from at l) (at + size (before ++ e ∷ [])) es) (append_assoc before (e ∷ []) es) h)

-- if the labels of a list rise in this way from those before it, each gives the address of its item
pub labels_hold : (at low breaks : ℕ) (before es : List Entry) → AreBelow low breaks (labels_from at before) → Woven low breaks es
    → LabelsAt (labels_from at (before ++ es)) (at + size before) es
labels_hold at low breaks before [] b r = tt
labels_hold at low breaks before (instr n m o ∷ es) b r =
    let e = instr n m o in (tt, moved at before e es (labels_hold at low breaks (before ++ e ∷ []) es (below_label at low breaks before e b tt) r))
labels_hold at low breaks before (label n ∷ es) b (inl r) =
    let e = label n in
    let k = key_of n in (
      label_stands at before es n (absent low breaks n (labels_from at before) (inl (r.0, r.1)) b),
      moved at before e es (labels_hold at (k + 1) breaks (before ++ e ∷ []) es (below_label at (k + 1) breaks before e
          (all_more low (k + 1) breaks breaks (labels_from at before) (omega (arith, r.1)) (omega arith) b) (inl (r.0, omega arith), tt)) r.2),
    )
labels_hold at low breaks before (label n ∷ es) b (inr r) =
    let e = label n in
    let k = key_of n in (
      label_stands at before es n (absent low breaks n (labels_from at before) (inr (r.0, r.1)) b),
      moved at before e es (labels_hold at low (k + 1) (before ++ e ∷ []) es (below_label at low (k + 1) before e
          (all_more low low breaks (k + 1) (labels_from at before) (omega arith) (omega (arith, r.1)) b) (inr (r.0, omega arith), tt)) r.2),
    )
labels_hold at low breaks before (bytes bs ∷ es) b r =
    let e = bytes bs in (tt, moved at before e es (labels_hold at low breaks (before ++ e ∷ []) es (below_label at low breaks before e b tt) r))
labels_hold at low breaks before (word o ∷ es) b r =
    let e = word o in (tt, moved at before e es (labels_hold at low breaks (before ++ e ∷ []) es (below_label at low breaks before e b tt) r))
