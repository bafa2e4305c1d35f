-- The slot code of a statement has no more instructions of a kind than it may, and its texts in order.
use Rattle.std.proofs.Common.{◌≡◌, ℕ, ◌+◌, ◌*◌, ◌≤◌, true, false, List, [], ◌∷◌, ◌++◌, length, Option, Some, None, refl, sym, ap, ap₂, ◌∙◌, arith, append-nil}
use Rattle.tb_basic_syntax.specs.Source.{Expression, Number, Variable, Binary, Item, Text, Value, Zone, Statement, Let, Print, If, Goto, Gosub, Remark}
use Rattle.tb_basic_syntax.specs.Source as source
use Rattle.tb_basic_meaning.specs.Cost.{nodes}
use Rattle.tb_lower.specs.Slots.{Instr, Store, Negate, Compute, Random, SendText, SendNumber, SendNewline, Hold, LeaveUnless, Jump, Call, JumpTo, CallTo}
use Rattle.tb_basic_meaning.specs.Values.{constant}
use Rattle.tb_lower.specs.Lowered.{or_constant, target_code, list_code, value_code, item_code, items_code, inputs_code, statement_code}
use Rattle.tb_lower.specs.Weights.{share, Weights, weigh, item_share, items_share, IsBounded, instr_texts}
use Rattle.tb_basic_syntax.specs.Texts.{item_texts, statement_texts}

weigh_append : (w : Weights) (xs ys : List Instr) → weigh w (xs ++ ys) ≡ weigh w xs + weigh w ys
weigh_append w [] ys = omega arith
weigh_append w (x ∷ xs) ys = omega (arith, weigh_append w xs ys)

constant_weight : (w : Weights) (x : Option ℕ) (k n : ℕ) (code : List Instr) → weigh w code ≤ w.work * (1 + n) → weigh w (or_constant x k code) ≤ w.work * (1 + n)
constant_weight w (Some v) k n code h = omega arith
constant_weight w None k n code h = h

value_weight : (w : Weights) (e : Expression) (k : ℕ) → weigh w (value_code e k) ≤ w.work * nodes e
value_weight w (Number n) k = omega arith
value_weight w (Variable x) k = omega arith
value_weight w (source.Negate e) k =
    constant_weight w (constant (source.Negate e)) k (nodes e) (value_code e k ++ Negate k ∷ [])
    (omega (arith, weigh_append w (value_code e k) (Negate k ∷ []), value_weight w e k))
value_weight w (Binary op l r) k =
    let few : weigh w (value_code l k ++ (value_code r (k + 1) ++ Compute op k ∷ [])) ≤ w.work * (1 + (nodes l + nodes r)) =
    omega (
      arith,
      weigh_append w (value_code l k) (value_code r (k + 1) ++ Compute op k ∷ []),
      weigh_append w (value_code r (k + 1))
          (Compute op k ∷ []),
      value_weight w l k,
      value_weight w r (k + 1),
    ) in
    omega (arith, constant_weight w (constant (Binary op l r)) k (nodes l + nodes r) _ few)
value_weight w (source.Random e) k = omega (arith, weigh_append w (value_code e k) (Random k ∷ []), value_weight w e k)

item_weight : (w : Weights) (i : Item) → weigh w (item_code i) ≤ item_share w i
item_weight w (Text t) = omega arith
item_weight w (Value e) = omega (arith, weigh_append w (value_code e 0) (SendNumber ∷ []), value_weight w e 0)
item_weight w Zone = omega arith

items_weight : (w : Weights) (is : List Item) → weigh w (items_code is) ≤ items_share w is
items_weight w [] = omega arith
items_weight w (i ∷ is) = omega (arith, weigh_append w (item_code i) (items_code is), item_weight w i, items_weight w is)

inputs_weight : (w : Weights) (xs : List ℕ) → weigh w (inputs_code xs) ≡ w.input * length xs
inputs_weight w [] = omega arith
inputs_weight w (x ∷ xs) = omega (arith, inputs_weight w xs)

target_weight : (w : Weights) (x : Option ℕ) (direct : ℕ → Instr) (code : List Instr) (most : ℕ) → ((v : ℕ) → weigh w (direct v ∷ []) ≤ most)
    → weigh w code ≤ most → weigh w (target_code x direct code) ≤ most
target_weight w (Some v) direct code most h h' = h v
target_weight w None direct code most h h' = h'

-- a statement's code weighs at most the statement's share and one store, newline and stop
pub bounded : (c : Statement) (w : Weights) → weigh w (statement_code c) ≤ w.store + w.newline + w.stop + share w c
bounded (Let x e) w = omega (arith, weigh_append w (value_code e 0) (Store x ∷ []), value_weight w e 0)
bounded (Print items true) w = omega (arith, weigh_append w (items_code items) (SendNewline ∷ []), items_weight w items)
bounded (Print items false) w = omega (arith, weigh_append w (items_code items) [], items_weight w items)
bounded (source.Input xs) w = omega (arith, inputs_weight w xs)
bounded (If l rel r c) w =
    omega (
      arith,
      weigh_append w (value_code l 0) (Hold ∷ (value_code r 0 ++ (LeaveUnless rel ∷ statement_code c))),
      weigh_append w (value_code r 0) (LeaveUnless rel ∷ statement_code c),
      value_weight w l 0,
      value_weight w r 0,
      bounded c w,
    )
bounded (Goto e) w =
    target_weight w (constant e) JumpTo _ _ (λ v. omega arith) (omega (arith, weigh_append w (value_code e 0) (Jump ∷ []), value_weight w e 0))
bounded (Gosub e) w =
    target_weight w (constant e) CallTo _ _ (λ v. omega arith) (omega (arith, weigh_append w (value_code e 0) (Call ∷ []), value_weight w e 0))
bounded source.Return w = omega arith
bounded source.End w = omega arith
bounded Remark w = omega arith

texts_cons : (i : Instr) (is js : List Instr) → (instr_texts (is ++ js) ≡ instr_texts is ++ instr_texts js) → instr_texts (i ∷ (is ++ js)) ≡ instr_texts (i ∷ is) ++ instr_texts js
texts_cons (SendText t) is js e = ap (λ ts. t ∷ ts) e
texts_cons _ is js e = e

texts_append : (is js : List Instr) → instr_texts (is ++ js) ≡ instr_texts is ++ instr_texts js
texts_append [] js = refl
texts_append (i ∷ is) js = texts_cons i is js (texts_append is js)

constant_texts : (x : Option ℕ) (k : ℕ) (code : List Instr) → instr_texts code ≡ [] → instr_texts (or_constant x k code) ≡ []
constant_texts (Some v) k code h = refl
constant_texts None k code h = h

silent : (e : Expression) (k : ℕ) → instr_texts (value_code e k) ≡ []
silent (Number n) k = refl
silent (Variable x) k = refl
silent (source.Negate e) k =
    constant_texts (constant (source.Negate e)) k _ (texts_append (value_code e k) _ ∙ ap (λ ts. ts ++ []) (silent e k))
silent (Binary op l r) k =
    constant_texts (constant (Binary op l r)) k _
    (texts_append (value_code l k) _ ∙ ap₂ (λ a b. a ++ b) (silent l k) (texts_append (value_code r (k + 1)) (Compute op k ∷ []) ∙ ap (λ ts. ts ++ []) (silent r (k + 1))))
silent (source.Random e) k = texts_append (value_code e k) _ ∙ ap (λ ts. ts ++ []) (silent e k)

value_texts : (e : Expression) (k : ℕ) (is : List Instr) → instr_texts (value_code e k ++ is) ≡ instr_texts is
value_texts e k is = texts_append (value_code e k) is ∙ ap (λ ts. ts ++ instr_texts is) (silent e k)

target_texts : (x : Option ℕ) (direct : ℕ → Instr) (code : List Instr) → ((v : ℕ) → instr_texts (direct v ∷ []) ≡ []) → instr_texts code ≡ []
    → instr_texts (target_code x direct code) ≡ []
target_texts (Some v) direct code h h' = h v
target_texts None direct code h h' = h'

items_texts : (is : List Item) (js : List Instr) → instr_texts (items_code is ++ js) ≡ item_texts is ++ instr_texts js
items_texts [] js = refl
items_texts (Text t ∷ is) js = ap (λ ts. t ∷ ts) (items_texts is js)
items_texts (Value e ∷ is) js =
    texts_append ((value_code e 0 ++ SendNumber ∷ []) ++ items_code is) js
    ∙ ap (λ ts. ts ++ instr_texts js) (texts_append (value_code e 0 ++ SendNumber ∷ []) (items_code is) ∙ ap (λ ts. ts ++ instr_texts (items_code is)) (value_texts e 0 (SendNumber ∷ [])))
    ∙ sym (texts_append (items_code is) js) ∙ items_texts is js
items_texts (Zone ∷ is) js = items_texts is js

-- a line's list is bounded by its statement, with the poll
pub bounded_list : (c : Statement) → IsBounded c (list_code c)
bounded_list c w = omega (arith, bounded c w)

-- a statement's code sends the statement's texts, in order
pub same_texts : (c : Statement) → instr_texts (statement_code c) ≡ statement_texts c
same_texts (Let x e) = value_texts e 0 _
same_texts (Print items true) = items_texts items _ ∙ append-nil _
same_texts (Print items false) = items_texts items _ ∙ append-nil _
same_texts (source.Input xs) = quiet xs
  where
    quiet : (xs : List ℕ) → instr_texts (inputs_code xs) ≡ []
    quiet [] = refl
    quiet (x ∷ xs) = quiet xs
same_texts (If l rel r c) = value_texts l 0 _ ∙ value_texts r 0 _ ∙ same_texts c
same_texts (Goto e) = target_texts (constant e) JumpTo _ (λ v. refl) (value_texts e 0 _)
same_texts (Gosub e) = target_texts (constant e) CallTo _ (λ v. refl) (value_texts e 0 _)
same_texts source.Return = refl
same_texts source.End = refl
same_texts Remark = refl
