-- The crate's trees as plain data.
use Rattle.std.specs.Prelude.{ℕ, List, map}
use Rattle.tb_words.specs.Letters.{letter_index}
use Rattle.tb_words.specs.declared.Letter.{Letter}
use Rattle.tb_basic_syntax.specs.declared.expressions.Expr.{Expr}
use Rattle.tb_basic_syntax.specs.declared.expressions.Expr.TheVariants as expr
use Rattle.tb_basic_syntax.specs.declared.statements.PrintItem.{PrintItem}
use Rattle.tb_basic_syntax.specs.declared.statements.PrintItem.TheVariants as item
use Rattle.tb_basic_syntax.specs.declared.statements.Statement.{Statement as RustStatement}
use Rattle.tb_basic_syntax.specs.declared.statements.Statement.TheVariants as statement
use Rattle.tb_basic_syntax.specs.Source.{Expression, Number, Variable, Negate, Binary, Random, Item, Text, Value, Zone, Statement, Let, Print, Input, If, Goto, Gosub, Return, End, Remark, Numbered, Program}

-- an expression as plain data
abbrev pub expression_of : Expr → Expression
expression_of (expr.Number n) = Number n
expression_of (expr.Variable x) = Variable (letter_index x)
expression_of (expr.Negate' p e) = Negate (expression_of e)
expression_of (expr.Binary' op p l q r) = Binary op (expression_of l) (expression_of r)
expression_of (expr.Random' p e) = Random (expression_of e)

-- an item of PRINT as plain data
abbrev pub item_of : PrintItem → Item
item_of (item.Text t) = Text t.items
item_of (item.Value e) = Value (expression_of e)
item_of item.Zone = Zone

-- letters by their places in the alphabet, from 0 for A
abbrev pub letters_of : List Letter → List ℕ
letters_of xs = map letter_index xs

-- a statement as plain data
abbrev pub statement_of : RustStatement → Statement
statement_of (statement.Let x e) = Let (letter_index x) (expression_of e)
statement_of (statement.Print items ends) = Print (map item_of items.items) ends
statement_of (statement.Input xs) = Input (letters_of xs.items)
statement_of (statement.If' l rel r p s) = If (expression_of l) rel (expression_of r) (statement_of s)
statement_of (statement.Goto e) = Goto (expression_of e)
statement_of (statement.Gosub e) = Gosub (expression_of e)
statement_of statement.Return = Return
statement_of statement.End = End
statement_of statement.Remark = Remark

-- a line number with its statement, as a line of plain data
abbrev pub line_of : ℕ × RustStatement → Numbered Statement
line_of l = record { number = l.0; content = statement_of l.1 }

-- a program's model, which is the list of its numbers and statements
abbrev pub lines_of : List (ℕ × RustStatement) → Program
lines_of ls = map line_of ls
