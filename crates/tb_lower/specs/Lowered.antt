-- The slot code of a program.
use Rattle.std.specs.Prelude.{ℕ, ◌+◌, Bool, true, false, List, [], ◌∷◌, ◌++◌, map, Option, Some, None}
use Rattle.tb_words.specs.Words.{word}
use Rattle.tb_basic_syntax.specs.Source.{Expression, Number, Variable, Binary, Item, Text, Value, Zone, Statement, Let, Print, If, Goto, Gosub, Remark, Program}
use Rattle.tb_basic_syntax.specs.Source as source
use Rattle.tb_basic_meaning.specs.Values.{constant}
use Rattle.tb_lower.specs.Slots.{Instr, Put, Load, Compute, Store, SendText, SendNumber, SendZone, SendNewline, Poll, Hold, LeaveUnless, Jump, Call, JumpTo, CallTo, SlotCode}
use Rattle.tb_lower.specs.Slots as slots

-- a constant, if there is one, into slot k; else that code
abbrev pub or_constant : Option ℕ → ℕ → List Instr → List Instr
or_constant (Some v) k code = Put k v ∷ []
or_constant None k code = code

-- the value of an expression into slot k, by slots from k on; each largest part that is constant is one instruction
abbrev pub value_code : Expression → ℕ → List Instr
value_code (Number n) k = Put k (word n) ∷ []
value_code (Variable x) k = Load k x ∷ []
value_code (source.Negate e) k = or_constant (constant (source.Negate e)) k (value_code e k ++ slots.Negate k ∷ [])
value_code (Binary op l r) k = or_constant (constant (Binary op l r)) k (value_code l k ++ (value_code r (k + 1) ++ Compute op k ∷ []))
value_code (source.Random e) k = value_code e k ++ slots.Random k ∷ []

-- one item of PRINT
abbrev pub item_code : Item → List Instr
item_code (Text t) = SendText t ∷ []
item_code (Value e) = value_code e 0 ++ SendNumber ∷ []
item_code Zone = SendZone ∷ []

-- the items in order
abbrev pub items_code : List Item → List Instr
items_code [] = []
items_code (i ∷ is) = item_code i ++ items_code is

-- the variables of INPUT in order
abbrev pub inputs_code : List ℕ → List Instr
inputs_code [] = []
inputs_code (x ∷ xs) = slots.Input x ∷ inputs_code xs

-- the carriage return that ends a PRINT
abbrev pub newline_code : Bool → List Instr
newline_code true = SendNewline ∷ []
newline_code false = []

-- a constant target, if there is one, is part of the instruction; else that code
abbrev pub target_code : Option ℕ → (ℕ → Instr) → List Instr → List Instr
target_code (Some v) direct code = direct v ∷ []
target_code None direct code = code

-- the slot code of a statement; the left side of IF is held while the right one is computed
abbrev pub statement_code : Statement → List Instr
statement_code (Let x e) = value_code e 0 ++ Store x ∷ []
statement_code (Print items ends) = items_code items ++ newline_code ends
statement_code (source.Input xs) = inputs_code xs
statement_code (If l rel r c) = value_code l 0 ++ (Hold ∷ (value_code r 0 ++ (LeaveUnless rel ∷ statement_code c)))
statement_code (Goto e) = target_code (constant e) JumpTo (value_code e 0 ++ Jump ∷ [])
statement_code (Gosub e) = target_code (constant e) CallTo (value_code e 0 ++ Call ∷ [])
statement_code source.Return = slots.Return ∷ []
statement_code source.End = slots.End ∷ []
statement_code Remark = []

-- a line takes an answer before anything else
abbrev pub list_code : Statement → List Instr
list_code c = Poll ∷ statement_code c

-- each line's list, under its number
abbrev pub program_code : Program → SlotCode
program_code lines = map (λ line. record { number = line.number; content = list_code line.content }) lines
