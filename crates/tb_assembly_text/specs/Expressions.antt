-- Expressions, read from the left: operators wait until those that bind more tightly have their right sides.
use Rattle.std.specs.Prelude.{◌≡◌, ℕ, Bool, true, false, Option, Some, None, Result, Ok, Err, List, [], ◌∷◌, ◌++◌, map, nat_le, if◌then◌else◌}
use Rattle.tb_assembly_text.specs.declared.faults.Fault.{Fault}
use Rattle.tb_assembly_text.specs.declared.faults.FaultKind.TheVariants.{WantsValue, WantsRight, Extra}
use Rattle.tb_assembly_text.specs.declared.faults.LineError.{LineError}
use Rattle.tb_assembly_text.specs.declared.faults.LineError.TheVariants.{NoMemory}
use Rattle.tb_assembly_text.specs.declared.tokens.Sign.{Sign}
use Rattle.tb_assembly_text.specs.declared.tokens.Sign.TheVariants.{Plus, Minus, Star, Slash, And as AndSign, Or as OrSign, Xor as XorSign, ShiftLeft as LeftSign, ShiftRight as RightSign, Less, Greater, Left, Right}
use Rattle.tb_assembly_text.specs.declared.expressions.Unary.{Unary}
use Rattle.tb_assembly_text.specs.declared.expressions.Unary.TheVariants.{Negative, Low, High}
use Rattle.tb_assembly_text.specs.declared.expressions.Binary.{Binary}
use Rattle.tb_assembly_text.specs.declared.expressions.Binary.TheVariants.{Add, Subtract, Multiply, Divide, And, Or, Xor, ShiftLeft, ShiftRight}
use Rattle.tb_assembly_text.specs.declared.expressions.Action.{Action}
use Rattle.tb_assembly_text.specs.declared.expressions.Action.TheVariants.{Number as NumberAction, Name as NameAction, Here as HereAction, Unary as UnaryAction, Binary as BinaryAction}
use Rattle.tb_assembly_text.specs.declared.expressions.Step.{Step}
use Rattle.tb_assembly_text.specs.declared.expressions.Expression.{Expression}
use Rattle.tb_assembly_text.specs.declared.expressions.Waiting.{Waiting}
use Rattle.tb_assembly_text.specs.declared.expressions.Waiting.TheVariants.{Open, Unary as UnaryWaiting, Binary as BinaryWaiting}
use Rattle.tb_assembly_text.specs.declared.expressions.Pending.{Pending}
use Rattle.tb_assembly_text.specs.declared.expressions.Reading.{Reading}
use Rattle.tb_assembly_text.specs.Names.{full_name}
use Rattle.tb_assembly_text.specs.Tokens.{Placed, word, number, sign}

-- what a step does: it puts a value on a stack of values, or replaces the last one or two of them by what an operator makes of them
pub data Deed : Type 0 where
  value : ℕ → Deed
  named : List ℕ → Deed
  here : Deed
  unary : Unary → Deed
  binary : Binary → Deed

-- a step: its column, and what it does
abbrev pub Mark : Type 0
Mark = ℕ × Deed

-- what the code's action does
abbrev pub deed_of : Action → Deed
deed_of (NumberAction n) = value n
deed_of (NameAction n) = named n.letters.items
deed_of HereAction = here
deed_of (UnaryAction u) = unary u
deed_of (BinaryAction b) = binary b

-- a step of the code as contracts see it
abbrev pub mark_of : Step → Mark
mark_of s = (s.column, deed_of s.action)

-- steps of the code as contracts see them
abbrev pub marks_of : List Step → List Mark
marks_of steps = map mark_of steps

-- an expression: its column, and its steps
abbrev pub Sum : Type 0
Sum = ℕ × List Mark

-- an expression of the code as contracts see it
abbrev pub sum_of : Expression → Sum
sum_of e = (e.column, marks_of e.steps.items)

-- what was read of an expression: what waits, the last first, and the steps
abbrev pub State : Type 0
State = List Pending × List Mark

-- what the code has read, as contracts see it
abbrev pub state_of : Reading → State
state_of r = (r.pending, marks_of r.steps.items)

-- how tightly an operator binds
abbrev pub level_of : Binary → ℕ
level_of Multiply = 6
level_of Divide = 6
level_of Add = 5
level_of Subtract = 5
level_of ShiftLeft = 4
level_of ShiftRight = 4
level_of And = 3
level_of Xor = 2
level_of Or = 1

-- the operator of a sign before an operand
abbrev pub unary_of : Sign → Option Unary
unary_of Minus = Some Negative
unary_of Less = Some Low
unary_of Greater = Some High
unary_of s = None

-- the operator of a sign between two operands
abbrev pub binary_of : Sign → Option Binary
binary_of Plus = Some Add
binary_of Minus = Some Subtract
binary_of Star = Some Multiply
binary_of Slash = Some Divide
binary_of AndSign = Some And
binary_of OrSign = Some Or
binary_of XorSign = Some Xor
binary_of LeftSign = Some ShiftLeft
binary_of RightSign = Some ShiftRight
binary_of s = None

-- whether what waits has its right side where an operator of this level follows: one before its operand always has
abbrev pub is_due : ℕ → Waiting → Bool
is_due level Open = false
is_due level (UnaryWaiting u) = true
is_due level (BinaryWaiting b) = nat_le level (level_of b)

-- what an operator does that has its right side; a parenthesis never has
abbrev pub deed_due : Waiting → Deed
deed_due Open = here
deed_due (UnaryWaiting u) = unary u
deed_due (BinaryWaiting b) = binary b

-- the step of an operator that has its right side
abbrev pub mark_due : Pending → Mark
mark_due p = (p.column, deed_due p.waiting)

-- all that have their right sides have become steps
abbrev pub settled : ℕ → List Pending → List Mark → State
settled level [] ms = ([], ms)
settled level (p ∷ ps) ms = if is_due level p.waiting then settled level ps (ms ++ mark_due p ∷ []) else (p ∷ ps, ms)

-- what comes of a token: it belongs to the expression, and then an operand is wanted or not; or the expression has ended before it
pub data Move : Type 0 where
  on : Bool → State → Move
  stop : State → Move

-- the value that a token stands for, with its column
abbrev pub value_in : List ℕ → Placed → Option Mark
value_in scope (c, number n) = Some (c, value n)
value_in scope (c, word w) = Some (c, named (full_name scope w))
value_in scope (c, sign Star) = Some (c, here)
value_in scope (c, t) = None

-- an operator before its operand
abbrev pub before_operand : Option Unary → Option Waiting
before_operand None = None
before_operand (Some u) = Some (UnaryWaiting u)

-- what of an operand a token opens: a parenthesis, or an operator before it
abbrev pub opening : Placed → Option Waiting
opening (c, sign Left) = Some Open
opening (c, sign s) = before_operand (unary_of s)
opening (c, t) = None

-- what opens an operand waits
abbrev pub opened : ℕ → Option Waiting → State → Move
opened c None s = stop s
opened c (Some w) s = on true (record { column = c; waiting = w } ∷ s.0, s.1)

-- a value is a step
abbrev pub with_value : Option Mark → Placed → State → Move
with_value (Some m) t s = on false (s.0, s.1 ++ m ∷ [])
with_value None t s = opened t.0 (opening t) s

-- a token where an operand is wanted
abbrev pub wanting : List ℕ → Placed → State → Move
wanting scope t s = with_value (value_in scope t) t s

-- a closing parenthesis where all before it have their right sides: it closes the last that is open
abbrev pub closing : State → Move
closing ([], ms) = stop ([], ms)
closing (p ∷ ps, ms) = on false (ps, ms)

-- an operator waits after those that bind as tightly
abbrev pub waits_after : ℕ → Binary → State → Move
waits_after c b s = on true (record { column = c; waiting = BinaryWaiting b } ∷ s.0, s.1)

-- an operator between two operands
abbrev pub operating : ℕ → Binary → State → Move
operating c b s = waits_after c b (settled (level_of b) s.0 s.1)

-- an operator after an operand, if there is one
abbrev pub with_operator : ℕ → Option Binary → State → Move
with_operator c None s = stop s
with_operator c (Some b) s = operating c b s

-- a token after an operand
abbrev pub having : Placed → State → Move
having (c, sign Right) s = closing (settled 0 s.0 s.1)
having (c, sign σ) s = with_operator c (binary_of σ) s
having (c, t) s = stop s

-- a token: where an operand is wanted, or after one
abbrev pub taken : List ℕ → Bool → Placed → State → Move
taken scope true t s = wanting scope t s
taken scope false t s = having t s

-- the steps, if no parenthesis is open
abbrev pub closed : ℕ → State → Result (List Mark) Fault
closed c ([], ms) = Ok ms
closed c (p ∷ ps, ms) = Err (record { column = c; kind = WantsRight })

-- the steps where the expression ends before a column
abbrev pub finished : Bool → ℕ → State → Result (List Mark) Fault
finished true c s = Err (record { column = c; kind = WantsValue })
finished false c s = closed c (settled 0 s.0 s.1)

-- the column of the first token; that of the end if there is none
abbrev pub column_at : ℕ → List Placed → ℕ
column_at end [] = end
column_at end (t ∷ ts) = t.0

-- steps, with the tokens after them
abbrev pub with_rest : List Placed → Result (List Mark) Fault → Result (List Mark × List Placed) Fault
with_rest ts (Ok ms) = Ok (ms, ts)
with_rest ts (Err f) = Err f

-- where the reading goes on, or what was read where it ends
abbrev pub moved : Bool → ℕ → List Placed → Move → (Bool → State → Result (List Mark × List Placed) Fault) → Result (List Mark × List Placed) Fault
moved wanted c ts (on w s) go = go w s
moved wanted c ts (stop s) go = with_rest ts (finished wanted c s)

-- the steps of an expression and the tokens after it, where so much of it was read
abbrev pub read_from : List ℕ → ℕ → Bool → State → List Placed → Result (List Mark × List Placed) Fault
read_from scope end wanted s [] = with_rest [] (finished wanted end s)
read_from scope end wanted s (t ∷ ts) = moved wanted t.0 (t ∷ ts) (taken scope wanted t s) (λ w r. read_from scope end w r ts)

-- an expression by its column and steps
abbrev pub at_column : ℕ → Result (List Mark × List Placed) Fault → Result (Sum × List Placed) Fault
at_column c (Ok r) = Ok ((c, r.0), r.1)
at_column c (Err f) = Err f

-- the expression at the front of some tokens of a line that ends at a column, with the tokens after it
abbrev pub expression : List ℕ → ℕ → List Placed → Result (Sum × List Placed) Fault
expression scope end ts = at_column (column_at end ts) (read_from scope end true ([], []) ts)

-- an expression after which nothing is left
abbrev pub alone : Result (Sum × List Placed) Fault → Result Sum Fault
alone (Err f) = Err f
alone (Ok (e, [])) = Ok e
alone (Ok (e, t ∷ ts)) = Err (record { column = t.0; kind = Extra })

-- the expression that some tokens are
abbrev pub whole : List ℕ → ℕ → List Placed → Result Sum Fault
whole scope end ts = alone (expression scope end ts)

-- the last that waits is taken if it is due
abbrev pub TakesDue : ℕ → List Pending → Option Pending → List Pending → Type 0
TakesDue level old None new = (new ≡ old) × ((ms : List Mark) → settled level old ms ≡ (old, ms))
TakesDue level old (Some p) new = (old ≡ p ∷ new) × (is_due level p.waiting ≡ true)

-- a step is put behind the others, or there is no memory
abbrev pub Adds : {U : Type 0} → Result U LineError → List Mark → Mark → List Mark → Type 0
Adds (Ok u) old m new = new ≡ old ++ m ∷ []
Adds (Err e) old m new = e ≡ NoMemory

-- a state is reached, or there is no memory
abbrev pub Settles : {U : Type 0} → State → Result U LineError → State → Type 0
Settles wanted (Ok u) new = new ≡ wanted
Settles wanted (Err e) new = e ≡ NoMemory

-- a value is found or not, or there is no memory
abbrev pub IsValue : Option Mark → Result (Option Step) LineError → Type 0
IsValue wanted (Ok None) = wanted ≡ None
IsValue wanted (Ok (Some s)) = wanted ≡ Some (mark_of s)
IsValue wanted (Err e) = e ≡ NoMemory

-- a move is made, or there is no memory
abbrev pub Moves : Move → Result (Option Bool) LineError → State → Type 0
Moves wanted (Ok (Some w)) new = wanted ≡ on w new
Moves wanted (Ok None) new = wanted ≡ stop new
Moves wanted (Err e) new = e ≡ NoMemory
