-- A program costs no less than its instructions do.
use Rattle.std.proofs.Common.{◌≡◌, ℕ, ◌+◌, ◌*◌, ◌≤◌, Bool, true, false, List, [], ◌∷◌, ◌++◌, length, arith, sum_by, Option, Some, None}
use Rattle.std.proofs.lemmas.List.Sums.{sum_by-cons}
use Rattle.tb_basic_syntax.specs.Source.{Expression, Number, Variable, Binary, Item, Text, Value, Zone, Statement, Let, Print, If, Goto, Gosub, Remark, Program}
use Rattle.tb_basic_syntax.specs.Source as source
use Rattle.tb_basic_meaning.specs.Cost.{nodes, statement_cost, cost, items_cost}
use Rattle.tb_basic_meaning.specs.Values.{constant}
use Rattle.tb_lower.specs.Lowered.{value_code, or_constant, target_code, items_code, inputs_code, newline_code, statement_code, program_code}
use Rattle.tb_lower.specs.Slots.{Instr, Store, Negate, Compute, Random, SendNumber, Hold, LeaveUnless, Jump, Call, JumpTo, CallTo}
use Rattle.tb_compiler_program.specs.Sizes.{price, list_price, lines_price, rest_price}
use Rattle.tb_basic_meaning.proofs.Costs.{items_pay}

list_append : (xs ys : List Instr) → list_price (xs ++ ys) ≡ list_price xs + list_price ys
list_append [] ys = omega arith
list_append (x ∷ xs) ys = let e = list_append xs ys in omega (arith, e)

-- a constant costs no more than what it stands for
constant_price : (v : Option ℕ) (k b : ℕ) (code : List Instr) → 48 ≤ b → list_price code ≤ b → list_price (or_constant v k code) ≤ b
constant_price (Some v) k b code p q = omega (arith, p)
constant_price None k b code p q = q

value_price : (e : Expression) (k : ℕ) → list_price (value_code e k) ≤ 48 * nodes e
value_price (Number n) k = omega arith
value_price (Variable x) k = omega arith
value_price (source.Negate e) k =
    let a = value_price e k in let b = list_append (value_code e k) (Negate k ∷ []) in
    constant_price (constant (source.Negate e)) k (48 * nodes (source.Negate e)) (value_code e k ++ Negate k ∷ []) (omega arith) (omega (arith, a, b))
value_price (Binary op l r) k =
    let a = value_price l k in let b = value_price r (k + 1) in
    let d = list_append (value_code r (k + 1)) (Compute op k ∷ []) in
    let c = list_append (value_code l k) (value_code r (k + 1) ++ Compute op k ∷ []) in
    constant_price (constant (Binary op l r)) k (48 * nodes (Binary op l r)) (value_code l k ++ (value_code r (k + 1) ++ Compute op k ∷ [])) (omega arith) (omega (arith, a, b, c, d))
value_price (source.Random e) k =
    let a = value_price e k in let b = list_append (value_code e k) (Random k ∷ []) in omega (arith, a, b)

some_nodes : (e : Expression) → 1 ≤ nodes e
some_nodes (Number n) = omega arith
some_nodes (Variable x) = omega arith
some_nodes (source.Negate e) = omega arith
some_nodes (Binary op l r) = omega arith
some_nodes (source.Random e) = omega arith

target_price : (v : Option ℕ) (direct : ℕ → Instr) (b : ℕ) (code : List Instr) → ((n : ℕ) → price (direct n) ≤ b) → list_price code ≤ b → list_price (target_code v direct code) ≤ b
target_price (Some v) direct b code p q = let h = p v in omega (arith, h)
target_price None direct b code p q = q

items_price : (is : List Item) → list_price (items_code is) ≤ items_cost is
items_price [] = omega arith
items_price (Zone ∷ is) = let a = items_price is in omega (arith, a)
items_price (Text t ∷ is) = let a = items_price is in omega (arith, a)
items_price (Value e ∷ is) =
    let a = items_price is in let b = value_price e 0 in
    let c = list_append (value_code e 0 ++ SendNumber ∷ []) (items_code is) in
    let d = list_append (value_code e 0) (SendNumber ∷ []) in
    omega (arith, a, b, c, d)

inputs_price : (xs : List ℕ) → list_price (inputs_code xs) ≤ 32 * length xs
inputs_price [] = omega arith
inputs_price (x ∷ xs) = let a = inputs_price xs in omega (arith, a)

newline_price : (ends : Bool) → list_price (newline_code ends) ≡ 0
newline_price true = omega arith
newline_price false = omega arith

statement_price : (c : Statement) → list_price (statement_code c) ≤ statement_cost c
statement_price (Let x e) = let a = value_price e 0 in let b = list_append (value_code e 0) (Store x ∷ []) in omega (arith, a, b)
statement_price (Print items ends) =
    let a = items_price items in let b = newline_price ends in
    let c = list_append (items_code items) (newline_code ends) in let d = items_pay items in
    omega (arith, a, b, c, d)
statement_price (source.Input xs) = let a = inputs_price xs in omega (arith, a)
statement_price (If l rel r c) =
    let a = value_price l 0 in let b = value_price r 0 in let d = statement_price c in
    let e = list_append (value_code r 0) (LeaveUnless rel ∷ statement_code c) in
    let f = list_append (value_code l 0) (Hold ∷ (value_code r 0 ++ (LeaveUnless rel ∷ statement_code c))) in
    omega (arith, a, b, d, e, f)
statement_price (Goto e) =
    let a = value_price e 0 in let b = list_append (value_code e 0) (Jump ∷ []) in let some = some_nodes e in
    target_price (constant e) JumpTo (48 + 48 * nodes e) (value_code e 0 ++ Jump ∷ []) (λ n. omega (arith, some)) (omega (arith, a, b))
statement_price (Gosub e) =
    let a = value_price e 0 in let b = list_append (value_code e 0) (Call ∷ []) in let some = some_nodes e in
    target_price (constant e) CallTo (48 + 48 * nodes e) (value_code e 0 ++ Call ∷ []) (λ n. omega (arith, some)) (omega (arith, a, b))
statement_price source.Return = omega arith
statement_price source.End = omega arith
statement_price Remark = omega arith

-- a program costs at least what its lines do, and the rest
pub program_price : (lines : Program) → rest_price + lines_price (program_code lines) ≤ cost lines
program_price lines = let a = all lines in omega (arith, a)
  where
    all : (lines : Program) → lines_price (program_code lines) ≤ sum_by (λ line. 36 + statement_cost line.content) lines
    all [] = omega arith
    all (line ∷ lines) =
        let a = all lines in let b = statement_price line.content in
        let c = sum_by-cons (λ line. 36 + statement_cost line.content) line lines in
        omega (arith, a, b, c)
