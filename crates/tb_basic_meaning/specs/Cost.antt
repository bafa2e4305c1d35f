-- What a program costs: a bound on the bytes of its code and line table.
use Rattle.std.specs.Prelude.{ℕ, ◌+◌, ◌*◌, List, [], ◌∷◌, sum_by, length}
use Rattle.tb_basic_syntax.specs.Source.{Expression, Number, Variable, Negate, Binary, Random, Item, Text, Value, Zone, Statement, Let, Print, Input, If, Goto, Gosub, Return, End, Remark, Program}

-- how many operators, numbers and variables an expression has
abbrev pub nodes : Expression → ℕ
nodes (Number n) = 1
nodes (Variable x) = 1
nodes (Negate e) = 1 + nodes e
nodes (Binary op l r) = 1 + nodes l + nodes r
nodes (Random e) = 1 + nodes e

-- the cost of an item of PRINT; a comma costs nothing
abbrev pub item_cost : Item → ℕ
item_cost (Text t) = 24 + length t
item_cost (Value e) = 24 + 48 * nodes e
item_cost Zone = 0

-- the cost of the items of a PRINT
abbrev pub items_cost : List Item → ℕ
items_cost [] = 0
items_cost (i ∷ is) = item_cost i + items_cost is

-- the cost of a statement; PRINT by its items, INPUT by its variables
abbrev pub statement_cost : Statement → ℕ
statement_cost (Let x e) = 48 * nodes e
statement_cost (Print items ends) = sum_by item_cost items
statement_cost (Input xs) = 32 * length xs
statement_cost (If l rel r c) = 64 + 48 * nodes l + 48 * nodes r + statement_cost c
statement_cost (Goto e) = 48 + 48 * nodes e
statement_cost (Gosub e) = 48 + 48 * nodes e
statement_cost Return = 48
statement_cost End = 0
statement_cost Remark = 0

-- the cost of a program, 36 for each line
abbrev pub cost : Program → ℕ
cost lines = 64 + sum_by (λ line. 36 + statement_cost line.content) lines
