-- How many slots an expression needs, and which programs need too many.
use Rattle.std.specs.Prelude.{ℕ, ◌+◌, max, List, [], ◌∷◌, if◌then◌else◌, nat_le, Option, Some, None}
use Rattle.tb_basic_syntax.specs.Source.{Expression, Number, Variable, Negate, Binary, Random, Item, Text, Value, Zone, Statement, Let, Print, Input, If, Goto, Gosub, Return, End, Remark, Program}

-- an operator keeps its left value in one slot while its right operand is computed
abbrev pub need : Expression → ℕ
need (Number n) = 1
need (Variable x) = 1
need (Negate e) = need e
need (Binary op l r) = max (need l) (1 + need r)
need (Random e) = need e

-- what an item of PRINT needs
abbrev pub item_need : Item → ℕ
item_need (Text t) = 0
item_need (Value e) = need e
item_need Zone = 0

-- the most that an item needs
abbrev pub items_need : List Item → ℕ
items_need [] = 0
items_need (i ∷ is) = max (item_need i) (items_need is)

-- the two sides of a relation are two expressions
abbrev pub statement_need : Statement → ℕ
statement_need (Let x e) = need e
statement_need (Print items ends) = items_need items
statement_need (Input xs) = 0
statement_need (If l rel r c) = max (max (need l) (need r)) (statement_need c)
statement_need (Goto e) = need e
statement_need (Gosub e) = need e
statement_need Return = 0
statement_need End = 0
statement_need Remark = 0

-- the lowest line that needs more than 16 slots
abbrev pub too_deep : Program → Option ℕ
too_deep [] = None
too_deep (line ∷ lines) = if nat_le (statement_need line.content) 16 then too_deep lines else Some line.number
