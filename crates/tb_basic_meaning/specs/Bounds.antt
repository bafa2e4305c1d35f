-- The bounds of RND in a statement.
use Rattle.std.specs.Prelude.{ℕ, List, [], ◌∷◌, ◌++◌, Option, flat_map}
use Rattle.tb_basic_syntax.specs.Parts.{expressions_of}
use Rattle.tb_basic_syntax.specs.Source.{Expression, Number, Variable, Negate, Binary, Random, Statement}
use Rattle.tb_basic_meaning.specs.Values.{constant}

-- the bounds of RND in an expression, each before those inside it, as the words come; None for one that isn't constant
abbrev pub expression_bounds : Expression → List (Option ℕ)
expression_bounds (Number n) = []
expression_bounds (Variable x) = []
expression_bounds (Negate e) = expression_bounds e
expression_bounds (Binary op l r) = expression_bounds l ++ expression_bounds r
expression_bounds (Random e) = constant e ∷ expression_bounds e

-- the bounds of RND in the expressions of a statement
abbrev pub statement_bounds : Statement → List (Option ℕ)
statement_bounds c = flat_map expression_bounds (expressions_of c)
