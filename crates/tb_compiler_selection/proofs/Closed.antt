-- Nothing is live before a line's list: it reads no slot and not the held word before it writes them.
use Rattle.std.proofs.Common.{◌≡◌, ℕ, ◌+◌, ◌≤◌, Bool, true, false, if◌then◌else◌, List, [], ◌∷◌, ◌++◌, refl, sym, ap}
use Rattle.std.proofs.Common.{◌∙◌, subst, append_assoc, arith, Option, Some, None, ⊎_elim}
use Rattle.std.specs.Prelude.{nat_eq}
use Rattle.std.proofs.lemmas.Bool.{eq-eqb, cases_eq}
use Rattle.tb_basic_syntax.specs.Source.{Expression, Number, Variable, Binary, Item, Text, Value, Zone, Statement, Let, Print, If, Goto, Gosub, Remark, Program}
use Rattle.tb_basic_syntax.specs.Source as source
use Rattle.tb_basic_meaning.specs.Control.{content_at}
use Rattle.tb_lower.specs.Slots.{Instr, Store, Compute, SendNumber, Input, Hold, LeaveUnless, Jump, Call, JumpTo, CallTo}
use Rattle.tb_lower.specs.Slots as slots
use Rattle.tb_lower.specs.Lowered.{value_code, or_constant, item_code, items_code, inputs_code, newline_code, target_code, statement_code, list_code, program_code}
use Rattle.tb_basic_meaning.specs.Values.{constant}
use Rattle.tb_compiler_selection.specs.Laws.{AreClosed}
use Rattle.tb_compiler_selection.specs.Liveness.{live, nothing_live, written, read}
use Rattle.tb_compiler_selection.specs.declared.liveness.Live.{Live}

-- at most the slots below k are read, and the held word if h says so
record Below (k : ℕ) (h : Bool) (r : Live) : Type 0 where
  slots : r.slots ≤ k
  held : r.held ≡ h

written_below : (k : ℕ) (h : Bool) (r : Live) → Below (k + 1) h r → Below k h (written k r)
written_below k h r b = record { slots = by (nat_eq r.slots (k + 1)) refl; held = b.held }
  where
    by : (t : Bool) → nat_eq r.slots (k + 1) ≡ t → (if t then k else r.slots) ≤ k
    by true e = omega arith
    by false e = ⊎_elim (λ q. absurd (let no : true ≡ false = sym (eq-eqb _ _ q) ∙ e in cc)) (λ n. omega (arith, b.slots, n)) (cases_eq r.slots (k + 1))

read_below : (j k : ℕ) (h : Bool) (r : Live) → j ≤ k → Below k h r → Below k h (read j r)
read_below j k h r le b = record { slots = omega (arith, le, b.slots); held = b.held }

constant_below : (o : Option ℕ) (k : ℕ) (h : Bool) (code is : List Instr) → Below (k + 1) h (live is) → Below k h (live (code ++ is)) → Below k h (live (or_constant o k code ++ is))
constant_below (Some v) k h code is b c = written_below k h (live is) b
constant_below None k h code is b c = c

more : (k : ℕ) (h : Bool) (a b c : List Instr) → Below k h (live (a ++ (b ++ c))) → Below k h (live ((a ++ b) ++ c))
more k h a b c x = subst (λ l. Below k h (live l)) (sym (append_assoc a b c)) x

-- a value into slot k reads only the slots below k
value_below : (e : Expression) (k : ℕ) (h : Bool) (is : List Instr) → Below (k + 1) h (live is) → Below k h (live (value_code e k ++ is))
value_below (Number n) k h is b = written_below k h (live is) b
value_below (Variable x) k h is b = written_below k h (live is) b
value_below (source.Negate e) k h is b =
    constant_below (constant (source.Negate e)) k h (value_code e k ++ slots.Negate k ∷ []) is b
    (more k h (value_code e k) (slots.Negate k ∷ []) is (value_below e k h (slots.Negate k ∷ is) (read_below (k + 1) (k + 1) h (live is) (omega arith) b)))
value_below (Binary op l r) k h is b =
    let wider : Below (k + 1 + 1) h (live (Compute op k ∷ is)) = read_below (k + 2) (k + 1 + 1) h (live is) (omega arith) (record { slots = omega (arith, b.slots); held = b.held }) in
    let right = value_below r (k + 1) h (Compute op k ∷ is) wider in
    constant_below (constant (Binary op l r)) k h (value_code l k ++ (value_code r (k + 1) ++ Compute op k ∷ [])) is b
    (more k h (value_code l k) (value_code r (k + 1) ++ Compute op k ∷ []) is
    (subst (λ x. Below k h (live (value_code l k ++ x))) (sym (append_assoc (value_code r (k + 1)) (Compute op k ∷ []) is))
    (value_below l k h (value_code r (k + 1) ++ Compute op k ∷ is) right)))
value_below (source.Random e) k h is b =
    more k h (value_code e k) (slots.Random k ∷ []) is (value_below e k h (slots.Random k ∷ is) (read_below (k + 1) (k + 1) h (live is) (omega arith) b))

first_read : (h : Bool) (is : List Instr) → Below 0 h (live is) → Below 1 h (read 1 (live is))
first_read h is b = record { slots = omega (arith, b.slots); held = b.held }

item_below : (i : Item) (is : List Instr) → Below 0 false (live is) → Below 0 false (live (item_code i ++ is))
item_below (Text t) is b = b
item_below (Value e) is b = more 0 false (value_code e 0) (SendNumber ∷ []) is (value_below e 0 false (SendNumber ∷ is) (first_read false is b))
item_below Zone is b = b

items_below : (items : List Item) (is : List Instr) → Below 0 false (live is) → Below 0 false (live (items_code items ++ is))
items_below [] is b = b
items_below (i ∷ items) is b = more 0 false (item_code i) (items_code items) is (item_below i (items_code items ++ is) (items_below items is b))

inputs_below : (xs : List ℕ) → Below 0 false (live (inputs_code xs))
inputs_below [] = record { slots = omega arith; held = refl }
inputs_below (x ∷ xs) = inputs_below xs

nothing : Below 0 false (live [])
nothing = record { slots = omega arith; held = refl }

newline_below : (t : Bool) → Below 0 false (live (newline_code t))
newline_below true = nothing
newline_below false = nothing

goto_below : (o : Option ℕ) (e : Expression) → Below 0 false (live (target_code o JumpTo (value_code e 0 ++ Jump ∷ [])))
goto_below (Some v) e = nothing
goto_below None e = value_below e 0 false (Jump ∷ []) (first_read false [] nothing)

gosub_below : (o : Option ℕ) (e : Expression) → Below 0 false (live (target_code o CallTo (value_code e 0 ++ Call ∷ [])))
gosub_below (Some v) e = nothing
gosub_below None e = value_below e 0 false (Call ∷ []) (first_read false [] nothing)

statement_below : (c : Statement) → Below 0 false (live (statement_code c))
statement_below (Let x e) = value_below e 0 false (Store x ∷ []) (first_read false [] nothing)
statement_below (Print items ends) = items_below items (newline_code ends) (newline_below ends)
statement_below (source.Input xs) = inputs_below xs
statement_below (If l rel r c) =
    let b = statement_below c in
    let tested : Below 1 true (live (LeaveUnless rel ∷ statement_code c)) = record { slots = omega (arith, b.slots); held = refl } in
    let right = value_below r 0 true (LeaveUnless rel ∷ statement_code c) tested in
    value_below l 0 false (Hold ∷ (value_code r 0 ++ LeaveUnless rel ∷ statement_code c)) (record { slots = omega (arith, right.slots); held = refl })
statement_below (Goto e) = goto_below (constant e) e
statement_below (Gosub e) = gosub_below (constant e) e
statement_below source.Return = nothing
statement_below source.End = nothing
statement_below Remark = nothing

some_is : {A : Type 0} (a b : A) → ◌≡◌ {A = Option A} (Some a) (Some b) → a ≡ b
some_is a b h = cc

none_is : {A : Type 0} (b : A) → ◌≡◌ {A = Option A} None (Some b) → ⊥
none_is b h = cc

-- nothing is live if no slot is read and the held word is not
is_nothing : (r : Live) → Below 0 false r → r ≡ nothing_live
is_nothing r b =
    let none : r.slots ≡ 0 = omega (arith, b.slots) in
    ap (λ k. record { slots = k; held = r.held }) none ∙ ap (λ h. record { slots = 0; held = h }) b.held

closed_by : (t : Bool) (c : Statement) (o : Option (List Instr)) (is : List Instr) → (o ≡ Some is → live is ≡ nothing_live)
    → (if t then Some (list_code c) else o) ≡ Some is → live is ≡ nothing_live
closed_by true c o is later e = ap live (sym (some_is _ _ e)) ∙ is_nothing (live (list_code c)) (statement_below c)
closed_by false c o is later e = later e

-- nothing is live before any line of a program
pub all_closed : (program : Program) → AreClosed (program_code program)
all_closed [] n is e = absurd (none_is is e)
all_closed (line ∷ lines) n is e = closed_by (nat_eq line.number n) line.content (content_at (program_code lines) n) is (all_closed lines n is) e
