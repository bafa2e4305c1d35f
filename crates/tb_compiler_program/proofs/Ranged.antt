-- The groups of a list are no more than its instructions, and these are in range.
use Rattle.std.proofs.Common.{◌≡◌, ◌+◌, ◌<◌, ◌≤◌, List, [], ◌∷◌, ◌++◌, length, map, ap, sym, subst, arith, length-append}
use Rattle.std.proofs.lemmas.List.{length-map}
use Rattle.tb_lower.specs.Ranges.{AreInRange}
use Rattle.tb_lower.specs.Slots.{Instr, Put, Store, Compute, LeaveUnless, JumpTo}
use Rattle.tb_compiler_selection.specs.Groups.{Group, Calculate, Stepped, Convert, Move, Use, Test, TestGo, OnLeft, OnRight, Divides, Remains, Single, slot_of, fetch}
use Rattle.tb_compiler_selection.specs.Groups.{keep, kept, held, convert, use_of, expand, expand_all}
use Rattle.tb_compiler_selection.specs.Select.{select}
use Rattle.tb_compiler_selection.proofs.Bracketed.{brackets}

-- a group has an instruction
one_expanded : (g : Group) → 1 ≤ length (expand g)
one_expanded (Calculate op a b d) =
    let p = length-append (fetch (slot_of d) a) (fetch (slot_of d + 1) b ++ Compute op (slot_of d) ∷ kept d) in
    let q = length-append (fetch (slot_of d + 1) b) (Compute op (slot_of d) ∷ kept d) in
    omega (arith, p, q)
one_expanded (Stepped op a b by w x) =
    let p = length-append (fetch 0 a) (fetch 1 b ++ Compute op 0 ∷ Put 1 w ∷ Compute by 0 ∷ Store x ∷ []) in
    let q = length-append (fetch 1 b) (Compute op 0 ∷ Put 1 w ∷ Compute by 0 ∷ Store x ∷ []) in
    omega (arith, p, q)
one_expanded (Convert what a d) = let p = length-append (fetch (slot_of d) a) (convert what (slot_of d) ∷ kept d) in omega (arith, p)
one_expanded (Move a home) = let p = length-append (fetch 0 a) (keep home ∷ []) in omega (arith, p)
one_expanded (Use how a) = let p = length-append (fetch 0 a) (use_of how ∷ []) in omega (arith, p)
one_expanded (Test rel a b) =
    let p = length-append (held a) (fetch 0 b ++ LeaveUnless rel ∷ []) in
    let q = length-append (fetch 0 b) (LeaveUnless rel ∷ []) in
    omega (arith, p, q)
one_expanded (TestGo rel a b to) =
    let p = length-append (held a) (fetch 0 b ++ LeaveUnless rel ∷ JumpTo to ∷ []) in
    let q = length-append (fetch 0 b) (LeaveUnless rel ∷ JumpTo to ∷ []) in
    omega (arith, p, q)
one_expanded (Divides how x d OnLeft to) = omega arith
one_expanded (Divides how x d OnRight to) = omega arith
one_expanded (Remains x d to) = omega arith
one_expanded (Single c) = omega arith

all_expanded : (gs : List Group) → length gs ≤ length (expand_all gs)
all_expanded [] = omega arith
all_expanded (g ∷ gs) =
    let a = one_expanded g in let b = all_expanded gs in let c = length-append (expand g) (expand_all gs) in omega (arith, a, b, c)

-- the groups of a list are no more than its instructions
pub selected_few : (is : List Instr) → length (select is) ≤ length is
selected_few is = subst (λ js. length (select is) ≤ length js) (brackets is) (all_expanded (select is))

-- the instructions of each of these groups are in range
abbrev pub AreGroupsInRange : List Group → Type 0
AreGroupsInRange [] = Unit {0}
AreGroupsInRange (g ∷ gs) = AreInRange 256 (expand g) × AreGroupsInRange gs

range_split : (xs ys : List Instr) → AreInRange 256 (xs ++ ys) → AreInRange 256 xs × AreInRange 256 ys
range_split [] ys h = (tt, h)
range_split (x ∷ xs) ys h = let rest = range_split xs ys h.1 in ((h.0, rest.0), rest.1)

-- groups whose instructions are in range are in range
pub groups_in_range : (gs : List Group) (is : List Instr) → expand_all gs ≡ is → AreInRange 256 is → AreGroupsInRange gs
groups_in_range gs is e h = by gs (subst (AreInRange 256) (sym e) h)
  where
    by : (gs : List Group) → AreInRange 256 (expand_all gs) → AreGroupsInRange gs
    by [] h = tt
    by (g ∷ gs) h = let s = range_split (expand g) (expand_all gs) h in (s.0, by gs s.1)

-- the groups of a list that is in range are in range, and as few
pub selected_in_range : {A : Type 0} (f : A → Group) (gs : List A) (is : List Instr) → map f gs ≡ select is → expand_all (map f gs) ≡ is → AreInRange 256 is → length is < 65536
    → AreInRange 256 (expand_all (map f gs)) × (length gs < 65536)
selected_in_range f gs is selected all range short =
    let few = selected_few is in let count = ap length selected in let same = length-map gs f in
    (subst (AreInRange 256) (sym all) range, omega (arith, few, count, same, short))
