-- Parts of a statement, also behind its IFs.
use Rattle.std.specs.Prelude.{Bool, true, false, List, [], ◌∷◌, Option, Some, None, flat_map}
use Rattle.tb_basic_syntax.specs.Source.{Expression, Item, Value, Statement, Let, Print, If, Goto, Gosub}

-- the target of the GOTO or GOSUB in a statement, and whether it comes back, as a GOSUB does
abbrev pub jump_of : Statement → Option (Expression × Bool)
jump_of (Goto e) = Some (e, false)
jump_of (Gosub e) = Some (e, true)
jump_of (If l rel r c) = jump_of c
jump_of _ = None

-- the expression of an item of PRINT, if it is one
abbrev pub item_expressions : Item → List Expression
item_expressions (Value e) = e ∷ []
item_expressions _ = []

-- the expressions of a statement, in their order
abbrev pub expressions_of : Statement → List Expression
expressions_of (Let x e) = e ∷ []
expressions_of (Print items ends) = flat_map item_expressions items
expressions_of (If l rel r c) = l ∷ r ∷ expressions_of c
expressions_of (Goto e) = e ∷ []
expressions_of (Gosub e) = e ∷ []
expressions_of _ = []
