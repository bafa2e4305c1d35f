-- Several groups that are one, and the one that takes their place.
use Rattle.std.proofs.Common.{◌≡◌, ℕ, ◌+◌, Bool, true, false, if◌then◌else◌, List, ◌++◌, refl, sym, ap, ◌∙◌, Option, Some, None}
use Rattle.std.specs.Prelude.{◌&&◌, nat_eq, option_map}
use Rattle.std.proofs.lemmas.Bool.{and_parts, eqb-true}
use Rattle.tb_words.specs.declared.Rel.{Rel}
use Rattle.tb_words.specs.declared.Rel.TheVariants as rel
use Rattle.tb_basic_syntax.specs.declared.expressions.Operator.TheVariants as op
use Rattle.tb_lower.specs.Slots.{Instr, Load}
use Rattle.tb_compiler_selection.specs.Groups.{Operand, Constant, Variable, InSlot, IntoHeld, Destination, IntoSlot, HeldBefore, HeldNow, Divisibility, Divisible}
use Rattle.tb_compiler_selection.specs.Groups.{Indivisible, OnLeft, OnRight, Group, Calculate, Move, Test, TestGo, Divides, Remains, Single, compared, expand, slot_of}
use Rattle.tb_compiler_selection.specs.Select.{provided, quotient_in, factor_in, difference_in, loaded_in, held_in, asked, equality_in, against_in, same_operand}
use Rattle.tb_compiler_selection.specs.Select.{multiple_of, multiple_in, divides_left, divides_right, remains, or_else, three_as_one, four_as_one}

-- a test of slot 0 with a variable, and one of the held word with slot 0
abbrev test_of : Divisibility → ℕ → Option ℕ → Group
test_of how x None = Test (compared how) (HeldNow InSlot) (Variable x)
test_of how x (Some to) = TestGo (compared how) (HeldNow InSlot) (Variable x) to

abbrev against_of : Divisibility → Option ℕ → Group
against_of how None = Test (compared how) HeldBefore InSlot
against_of how (Some to) = TestGo (compared how) HeldBefore InSlot to

-- ── what each of them is ──
abbrev IsQuotient : Group → Option (ℕ × ℕ × Operand) → Type 0
IsQuotient g (Some q) = g ≡ Calculate op.Divide (Variable q.1) q.2 (IntoSlot q.0)
IsQuotient g None = Unit {0}

abbrev IsProduct : Group → Option (ℕ × Operand) → Type 0
IsProduct g (Some f) = g ≡ Calculate op.Multiply InSlot f.1 (IntoSlot f.0)
IsProduct g None = Unit {0}

abbrev IsDifference : Group → Option Destination → Type 0
IsDifference g (Some d) = g ≡ Calculate op.Subtract InSlot InSlot d
IsDifference g None = Unit {0}

abbrev IsLoaded : Group → Option (ℕ × ℕ) → Type 0
IsLoaded g (Some l) = g ≡ Single (Load l.0 l.1)
IsLoaded g None = Unit {0}

abbrev IsHeld : Group → Option ℕ → Type 0
IsHeld g (Some x) = g ≡ Move (Variable x) IntoHeld
IsHeld g None = Unit {0}

abbrev IsTest : Group → Option (Divisibility × ℕ × Option ℕ) → Type 0
IsTest g (Some t) = g ≡ test_of t.0 t.1 t.2
IsTest g None = Unit {0}

abbrev IsAgainst : Group → Option (Divisibility × Option ℕ) → Type 0
IsAgainst g (Some t) = g ≡ against_of t.0 t.1
IsAgainst g None = Unit {0}

quotient_is : (g : Group) → IsQuotient g (quotient_in g)
quotient_is (Calculate op.Divide (Variable x) d (IntoSlot k)) = refl
quotient_is _ = tt

product_is : (g : Group) → IsProduct g (factor_in g)
product_is (Calculate op.Multiply InSlot d (IntoSlot k)) = refl
product_is _ = tt

difference_is : (g : Group) → IsDifference g (difference_in g)
difference_is (Calculate op.Subtract InSlot InSlot d) = refl
difference_is _ = tt

loaded_is : (g : Group) → IsLoaded g (loaded_in g)
loaded_is (Single (Load k x)) = refl
loaded_is _ = tt

held_is : (g : Group) → IsHeld g (held_in g)
held_is (Move (Variable x) IntoHeld) = refl
held_is _ = tt

-- what follows a relation that asks for a multiple, one that asks for any other word, and any other relation
by_asked : (P : Rel → Option Divisibility → Type 0) → ((how : Divisibility) → P (compared how) (Some how)) → ((r : Rel) → P r None) → (r : Rel) → P r (asked r)
by_asked P asks other rel.Eq = asks Divisible
by_asked P asks other rel.Ne = asks Indivisible
by_asked P asks other r = other r

test_is : (g : Group) → IsTest g (equality_in g)
test_is (Test r (HeldNow InSlot) (Variable x)) = by_asked (λ r o. IsTest (Test r (HeldNow InSlot) (Variable x)) (option_map (λ how. (how, x, None)) o)) (λ how. refl) (λ r. tt) r
test_is (TestGo r (HeldNow InSlot) (Variable x) to) = by_asked (λ r o. IsTest (TestGo r (HeldNow InSlot) (Variable x) to) (option_map (λ how. (how, x, (Some to))) o)) (λ how. refl) (λ r. tt) r
test_is _ = tt

against_is : (g : Group) → IsAgainst g (against_in g)
against_is (Test r HeldBefore InSlot) = by_asked (λ r o. IsAgainst (Test r HeldBefore InSlot) (option_map (λ how. (how, None)) o)) (λ how. refl) (λ r. tt) r
against_is (TestGo r HeldBefore InSlot to) = by_asked (λ r o. IsAgainst (TestGo r HeldBefore InSlot to) (option_map (λ how. (how, (Some to))) o)) (λ how. refl) (λ r. tt) r
against_is _ = tt

operand_is : (a b : Operand) → same_operand a b ≡ true → a ≡ b
operand_is (Constant v) (Constant w) e = ap Constant (eqb-true v w e)
operand_is (Variable x) (Variable y) e = ap Variable (eqb-true x y e)
operand_is _ _ e = cc

-- ── a multiple ──
-- two groups are the quotient of a variable and that quotient times the divisor
abbrev AreMultiple : Group → Group → Option (ℕ × ℕ × Operand) → Type 0
AreMultiple a b (Some m) = (a ≡ Calculate op.Divide (Variable m.1) m.2 (IntoSlot m.0)) × (b ≡ Calculate op.Multiply InSlot m.2 (IntoSlot m.0))
AreMultiple a b None = Unit {0}

multiple_is : (a b : Group) → AreMultiple a b (multiple_in a b)
multiple_is a b = by (quotient_in a) (factor_in b) (quotient_is a) (product_is b)
  where
    by : (q : Option (ℕ × ℕ × Operand)) (f : Option (ℕ × Operand)) → IsQuotient a q → IsProduct b f → AreMultiple a b (multiple_of q f)
    by (Some q) (Some f) ea eb = go (nat_eq q.0 f.0 && same_operand q.2 f.1) refl
      where
        go : (same : Bool) → (nat_eq q.0 f.0 && same_operand q.2 f.1) ≡ same → AreMultiple a b (if same then Some q else None)
        go true e =
            let p = and_parts (nat_eq q.0 f.0) (same_operand q.2 f.1) e in
            (ea, eb ∙ (λ i. Calculate op.Multiply InSlot (sym (operand_is q.2 f.1 p.1) i) (IntoSlot (sym (eqb-true q.0 f.0 p.0) i))))
        go false e = tt
    by _ _ ea eb = tt

-- ── the one group ──
-- a group, if there is one, has the slot instructions of three, or of four
abbrev pub IsThree : Group → Group → Group → Option Group → Type 0
IsThree a b c None = Unit {0}
IsThree a b c (Some g) = (is : List Instr) → expand g ++ is ≡ expand a ++ (expand b ++ (expand c ++ is))

abbrev pub IsFour : Group → Group → Group → Group → Option Group → Type 0
IsFour a b c e None = Unit {0}
IsFour a b c e (Some g) = (is : List Instr) → expand g ++ is ≡ expand a ++ (expand b ++ (expand c ++ (expand e ++ is)))

left_expanded : (how : Divisibility) (x : ℕ) (d : Operand) (to : Option ℕ) (is : List Instr) → expand (Divides how x d OnLeft to) ++ is
    ≡ expand (Calculate op.Divide (Variable x) d (IntoSlot 0)) ++ (expand (Calculate op.Multiply InSlot d (IntoSlot 0)) ++ (expand (test_of how x to) ++ is))
left_expanded how x (Constant w) None is = refl
left_expanded how x (Constant w) (Some to) is = refl
left_expanded how x (Variable y) None is = refl
left_expanded how x (Variable y) (Some to) is = refl
left_expanded how x InSlot None is = refl
left_expanded how x InSlot (Some to) is = refl

right_expanded : (how : Divisibility) (x : ℕ) (d : Operand) (to : Option ℕ) (is : List Instr) → expand (Divides how x d OnRight to) ++ is
    ≡ expand (Move (Variable x) IntoHeld) ++ (expand (Calculate op.Divide (Variable x) d (IntoSlot 0))
    ++ (expand (Calculate op.Multiply InSlot d (IntoSlot 0)) ++ (expand (against_of how to) ++ is)))
right_expanded how x (Constant w) None is = refl
right_expanded how x (Constant w) (Some to) is = refl
right_expanded how x (Variable y) None is = refl
right_expanded how x (Variable y) (Some to) is = refl
right_expanded how x InSlot None is = refl
right_expanded how x InSlot (Some to) is = refl

rest_expanded : (x : ℕ) (d : Operand) (to : Destination) (is : List Instr) → expand (Remains x d to) ++ is ≡ expand (Single (Load (slot_of to) x))
    ++ (expand (Calculate op.Divide (Variable x) d (IntoSlot (slot_of to + 1)))
    ++ (expand (Calculate op.Multiply InSlot d (IntoSlot (slot_of to + 1))) ++ (expand (Calculate op.Subtract InSlot InSlot to) ++ is)))
rest_expanded x (Constant w) to is = refl
rest_expanded x (Variable y) to is = refl
rest_expanded x InSlot to is = refl

-- three groups as one have the instructions of the three
pub three_is : (a b c : Group) → IsThree a b c (three_as_one a b c)
three_is a b c = by (multiple_in a b) (equality_in c) (multiple_is a b) (test_is c)
  where
    by : (m : Option (ℕ × ℕ × Operand)) (t : Option (Divisibility × ℕ × Option ℕ)) → AreMultiple a b m → IsTest c t → IsThree a b c (divides_left m t)
    by (Some m) (Some t) es ec = go (nat_eq m.0 0 && nat_eq m.1 t.1) refl
      where
        go : (so : Bool) → (nat_eq m.0 0 && nat_eq m.1 t.1) ≡ so → IsThree a b c (provided so (Divides t.0 m.1 m.2 OnLeft t.2))
        go true e = λ is.
            let p = and_parts (nat_eq m.0 0) (nat_eq m.1 t.1) e in
            let zero = eqb-true m.0 0 p.0 in
            let ea : a ≡ Calculate op.Divide (Variable m.1) m.2 (IntoSlot 0) = es.0 ∙ ap (λ k. Calculate op.Divide (Variable m.1) m.2 (IntoSlot k)) zero in
            let eb : b ≡ Calculate op.Multiply InSlot m.2 (IntoSlot 0) = es.1 ∙ ap (λ k. Calculate op.Multiply InSlot m.2 (IntoSlot k)) zero in
            let et : c ≡ test_of t.0 m.1 t.2 = ec ∙ ap (λ x. test_of t.0 x t.2) (sym (eqb-true m.1 t.1 p.1)) in
            left_expanded t.0 m.1 m.2 t.2 is ∙ (λ i. expand (sym ea i) ++ (expand (sym eb i) ++ (expand (sym et i) ++ is)))
        go false e = tt
    by _ _ es ec = tt

right_is : (a b c e : Group) → IsFour a b c e (divides_right (held_in a) (multiple_in b c) (against_in e))
right_is a b c e = by (held_in a) (multiple_in b c) (against_in e) (held_is a) (multiple_is b c) (against_is e)
  where
    by : (x : Option ℕ) (m : Option (ℕ × ℕ × Operand)) (t : Option (Divisibility × Option ℕ)) → IsHeld a x → AreMultiple b c m → IsAgainst e t → IsFour a b c e (divides_right x m t)
    by (Some x) (Some m) (Some t) ea es ee = go (nat_eq m.0 0 && nat_eq m.1 x) refl
      where
        go : (so : Bool) → (nat_eq m.0 0 && nat_eq m.1 x) ≡ so → IsFour a b c e (provided so (Divides t.0 m.1 m.2 OnRight t.1))
        go true q = λ is.
            let p = and_parts (nat_eq m.0 0) (nat_eq m.1 x) q in
            let zero = eqb-true m.0 0 p.0 in
            let eh : a ≡ Move (Variable m.1) IntoHeld = ea ∙ ap (λ x. Move (Variable x) IntoHeld) (sym (eqb-true m.1 x p.1)) in
            let eb : b ≡ Calculate op.Divide (Variable m.1) m.2 (IntoSlot 0) = es.0 ∙ ap (λ k. Calculate op.Divide (Variable m.1) m.2 (IntoSlot k)) zero in
            let ec : c ≡ Calculate op.Multiply InSlot m.2 (IntoSlot 0) = es.1 ∙ ap (λ k. Calculate op.Multiply InSlot m.2 (IntoSlot k)) zero in
            right_expanded t.0 m.1 m.2 t.1 is ∙ (λ i. expand (sym eh i) ++ (expand (sym eb i) ++ (expand (sym ec i) ++ (expand (sym ee i) ++ is))))
        go false q = tt
    by _ _ _ ea es ee = tt

rest_is : (a b c e : Group) → IsFour a b c e (remains (loaded_in a) (multiple_in b c) (difference_in e))
rest_is a b c e = by (loaded_in a) (multiple_in b c) (difference_in e) (loaded_is a) (multiple_is b c) (difference_is e)
  where
    by : (l : Option (ℕ × ℕ)) (m : Option (ℕ × ℕ × Operand)) (d : Option Destination) → IsLoaded a l → AreMultiple b c m → IsDifference e d → IsFour a b c e (remains l m d)
    by (Some l) (Some m) (Some d) ea es ee = go (nat_eq m.0 (l.0 + 1) && nat_eq m.1 l.1 && nat_eq l.0 (slot_of d)) refl
      where
        go : (so : Bool) → (nat_eq m.0 (l.0 + 1) && nat_eq m.1 l.1 && nat_eq l.0 (slot_of d)) ≡ so → IsFour a b c e (provided so (Remains m.1 m.2 d))
        go true q = λ is.
            let p2 = and_parts (nat_eq m.0 (l.0 + 1) && nat_eq m.1 l.1) (nat_eq l.0 (slot_of d)) q in
            let p3 = and_parts (nat_eq m.0 (l.0 + 1)) (nat_eq m.1 l.1) p2.0 in
            let into = eqb-true l.0 (slot_of d) p2.1 in
            let next = eqb-true m.0 (l.0 + 1) p3.0 ∙ ap (λ k. k + 1) into in
            let el : a ≡ Single (Load (slot_of d) m.1) = ea ∙ (λ i. Single (Load (into i) (sym (eqb-true m.1 l.1 p3.1) i))) in
            let eb : b ≡ Calculate op.Divide (Variable m.1) m.2 (IntoSlot (slot_of d + 1)) = es.0 ∙ ap (λ k. Calculate op.Divide (Variable m.1) m.2 (IntoSlot k)) next in
            let ec : c ≡ Calculate op.Multiply InSlot m.2 (IntoSlot (slot_of d + 1)) = es.1 ∙ ap (λ k. Calculate op.Multiply InSlot m.2 (IntoSlot k)) next in
            rest_expanded m.1 m.2 d is ∙ (λ i. expand (sym el i) ++ (expand (sym eb i) ++ (expand (sym ec i) ++ (expand (sym ee i) ++ is))))
        go false q = tt
    by _ _ _ ea es ee = tt

-- four groups as one have the instructions of the four
pub four_is : (a b c e : Group) → IsFour a b c e (four_as_one a b c e)
four_is a b c e = by (divides_right (held_in a) (multiple_in b c) (against_in e)) (right_is a b c e)
  where
    by : (o : Option Group) → IsFour a b c e o → IsFour a b c e (or_else o (remains (loaded_in a) (multiple_in b c) (difference_in e)))
    by (Some g) h = h
    by None h = rest_is a b c e
