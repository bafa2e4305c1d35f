-- The operands of slot code are in their ranges.
use Rattle.std.proofs.Common.{◌≡◌, ℕ, ◌+◌, ◌≤◌, ◌<◌, true, false, List, [], ◌∷◌, ◌++◌, Option, Some, None, refl, sym, subst, arith}
use Rattle.tb_basic_syntax.specs.declared.statements.Statement.{Statement as RustStatement}
use Rattle.tb_basic_syntax.specs.Source.{Expression, Number, Variable, Binary, Item, Text, Value, Zone, Statement, Let, Print, If, Goto, Gosub, Remark}
use Rattle.tb_basic_syntax.specs.Source as source
use Rattle.tb_basic_syntax.specs.PlainData.{statement_of, lines_of}
use Rattle.tb_basic_meaning.specs.Need.{need, items_need, statement_need, too_deep}
use Rattle.tb_lower.specs.Slots.{Instr, Store, Negate, Compute, Random, SendNumber, SendNewline, Jump, Call, JumpTo, CallTo, SlotCode}
use Rattle.tb_basic_meaning.specs.Values.{constant}
use Rattle.tb_lower.specs.Lowered.{or_constant, target_code, value_code, items_code, inputs_code, statement_code, program_code}
use Rattle.tb_basic_syntax.specs.Texts.{item_texts, statement_texts, AreShort, HasShortTexts}
use Rattle.tb_lower.specs.Ranges.{AreInRange, IsCodeInRange}
use Rattle.tb_basic_meaning.proofs.Constants.{constant_small}
use Rattle.tb_basic_meaning.proofs.Lettered.{IsLettered, AreLettered, AreLetters, DoesLettered, statement_letters}
use Rattle.tb_lower.proofs.Values.{need_pos}
use Rattle.tb_lower.proofs.Lists.{IsShallow, more, shallow}

module _ (limit : ℕ) where
  both_in_range : (is js : List Instr) → AreInRange limit is → AreInRange limit js → AreInRange limit (is ++ js)
  both_in_range [] js h h' = h'
  both_in_range (i ∷ is) js h h' = (h.0, both_in_range is js h.1 h')

  constant_in_range : (e : Expression) (x : Option ℕ) (k : ℕ) (code : List Instr) → constant e ≡ x → k < 16 → AreInRange limit code → AreInRange limit (or_constant x k code)
  constant_in_range e (Some v) k code same lt h = ((lt, constant_small e v same), tt)
  constant_in_range e None k code same lt h = h

  value_in_range : (e : Expression) (k : ℕ) → k + need e ≤ 16 → IsLettered e → AreInRange limit (value_code e k)
  value_in_range (Number n) k fits h = ((omega arith, constant_small (Number n) _ refl), tt)
  value_in_range (Variable x) k fits h = ((omega arith, h), tt)
  value_in_range (source.Negate e) k fits h =
      let lt : k < 16 = omega (arith, need_pos e) in
      constant_in_range (source.Negate e) (constant (source.Negate e)) k _ refl lt (both_in_range (value_code e k) (Negate k ∷ []) (value_in_range e k fits h) (lt, tt))
  value_in_range (Binary op l r) k fits h =
      let lt : k + 1 < 16 = omega (arith, need_pos r) in
      constant_in_range (Binary op l r) (constant (Binary op l r)) k _ refl (omega arith)
      (both_in_range (value_code l k) _ (value_in_range l k (omega arith) h.0)
      (both_in_range (value_code r (k + 1)) (Compute op k ∷ []) (value_in_range r (k + 1) (omega arith) h.1) (lt, tt)))
  value_in_range (source.Random e) k fits h =
      let lt : k < 16 = omega (arith, need_pos e) in
      both_in_range (value_code e k) (Random k ∷ []) (value_in_range e k fits h) (lt, tt)

  items_in_range : (is : List Item) → items_need is ≤ 16 → AreLettered is → AreShort limit (item_texts is) → AreInRange limit (items_code is)
  items_in_range [] fits h short = tt
  items_in_range (Text t ∷ is) fits h short = (short.0, items_in_range is (omega arith) h short.1)
  items_in_range (Value e ∷ is) fits h short =
      both_in_range (value_code e 0 ++ SendNumber ∷ []) (items_code is)
      (both_in_range (value_code e 0) (SendNumber ∷ []) (value_in_range e 0 (omega arith) h.0) (tt, tt)) (items_in_range is (omega arith) h.1 short)
  items_in_range (Zone ∷ is) fits h short = (tt, items_in_range is (omega arith) h short)

  inputs_in_range : (xs : List ℕ) → AreLetters xs → AreInRange limit (inputs_code xs)
  inputs_in_range [] h = tt
  inputs_in_range (x ∷ xs) h = (h.0, inputs_in_range xs h.1)

  statement_in_range : (c : Statement) → statement_need c ≤ 16 → DoesLettered c → AreShort limit (statement_texts c) → AreInRange limit (statement_code c)
  statement_in_range (Let x e) fits h short = both_in_range (value_code e 0) (Store x ∷ []) (value_in_range e 0 (omega arith) h.1) (h.0, tt)
  statement_in_range (Print items true) fits h short = both_in_range (items_code items) (SendNewline ∷ []) (items_in_range items fits h short) (tt, tt)
  statement_in_range (Print items false) fits h short = both_in_range (items_code items) [] (items_in_range items fits h short) tt
  statement_in_range (source.Input xs) fits h short = inputs_in_range xs h
  statement_in_range (If l rel r c) fits h short =
      both_in_range (value_code l 0) _ (value_in_range l 0 (omega arith) h.0)
      (tt, both_in_range (value_code r 0) _ (value_in_range r 0 (omega arith) h.1) (tt, statement_in_range c (omega arith) h.2 short))
  statement_in_range (Goto e) fits h short = target (constant e) refl
    where
      target : (x : Option ℕ) → constant e ≡ x → AreInRange limit (target_code x JumpTo (value_code e 0 ++ Jump ∷ []))
      target (Some v) same = (constant_small e v same, tt)
      target None same = both_in_range (value_code e 0) (Jump ∷ []) (value_in_range e 0 (omega arith) h) (tt, tt)
  statement_in_range (Gosub e) fits h short = target (constant e) refl
    where
      target : (x : Option ℕ) → constant e ≡ x → AreInRange limit (target_code x CallTo (value_code e 0 ++ Call ∷ []))
      target (Some v) same = (constant_small e v same, tt)
      target None same = both_in_range (value_code e 0) (Call ∷ []) (value_in_range e 0 (omega arith) h) (tt, tt)
  statement_in_range source.Return fits h short = (tt, tt)
  statement_in_range source.End fits h short = (tt, tt)
  statement_in_range Remark fits h short = tt

  code_in_range : (lines : List (ℕ × RustStatement)) → IsShallow (lines_of lines) → HasShortTexts limit (lines_of lines) → IsCodeInRange limit (program_code (lines_of lines))
  code_in_range [] shallow short = tt
  code_in_range (l ∷ ls) (more fits rest) short =
      ((tt, statement_in_range (statement_of l.1) fits (statement_letters l.1) short.0), code_in_range ls rest short.1)

-- the code of a program that is not too deep has its operands in range, and texts as short as the program's
pub in_range : (lines : List (ℕ × RustStatement)) (code : SlotCode) → too_deep (lines_of lines) ≡ None → code ≡ program_code (lines_of lines)
    → (limit : ℕ) → HasShortTexts limit (lines_of lines) → IsCodeInRange limit code
in_range lines code deep same limit short =
    subst (IsCodeInRange limit) (sym same) (code_in_range limit lines (shallow (lines_of lines) deep) short)
