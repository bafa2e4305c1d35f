-- The variables of a program are letters.
use Rattle.std.proofs.Common.{ℕ, ◌<◌, List, [], ◌∷◌, map}
use Rattle.tb_words.specs.Letters.{letter_index}
use Rattle.tb_words.specs.declared.Letter.{Letter}
use Rattle.tb_basic_syntax.specs.declared.expressions.Expr.{Expr}
use Rattle.tb_basic_syntax.specs.declared.expressions.Expr.TheVariants as expr
use Rattle.tb_basic_syntax.specs.declared.statements.PrintItem.{PrintItem}
use Rattle.tb_basic_syntax.specs.declared.statements.PrintItem.TheVariants as item
use Rattle.tb_basic_syntax.specs.declared.statements.Statement.{Statement as RustStatement}
use Rattle.tb_basic_syntax.specs.declared.statements.Statement.TheVariants as statement
use Rattle.tb_basic_syntax.specs.Source.{Expression, Number, Variable, Binary, Item, Value, Statement, Let, Print, If, Goto, Gosub}
use Rattle.tb_basic_syntax.specs.Source as source
use Rattle.tb_basic_syntax.specs.PlainData.{expression_of, item_of, letters_of, statement_of}

abbrev pub IsLettered : Expression → Type 0
IsLettered (Number n) = Unit {0}
IsLettered (Variable x) = x < 26
IsLettered (source.Negate e) = IsLettered e
IsLettered (Binary op l r) = IsLettered l × IsLettered r
IsLettered (source.Random e) = IsLettered e

abbrev pub AreLettered : List Item → Type 0
AreLettered [] = Unit {0}
AreLettered (Value e ∷ is) = IsLettered e × AreLettered is
AreLettered (_ ∷ is) = AreLettered is

abbrev pub AreLetters : List ℕ → Type 0
AreLetters [] = Unit {0}
AreLetters (x ∷ xs) = (x < 26) × AreLetters xs

abbrev pub DoesLettered : Statement → Type 0
DoesLettered (Let x e) = (x < 26) × IsLettered e
DoesLettered (Print items ends) = AreLettered items
DoesLettered (source.Input xs) = AreLetters xs
DoesLettered (If l rel r c) = IsLettered l × IsLettered r × DoesLettered c
DoesLettered (Goto e) = IsLettered e
DoesLettered (Gosub e) = IsLettered e
DoesLettered _ = Unit {0}

letter : (x : Letter) → letter_index x < 26
letter x = x.in_alphabet

-- the variables of a tree's expression are letters
pub expression_letters : (e : Expr) → IsLettered (expression_of e)
expression_letters (expr.Number n) = tt
expression_letters (expr.Variable x) = letter x
expression_letters (expr.Negate' p e) = expression_letters e
expression_letters (expr.Binary' op p l q r) = (expression_letters l, expression_letters r)
expression_letters (expr.Random' p e) = expression_letters e

items_letters : (is : List PrintItem) → AreLettered (map item_of is)
items_letters [] = tt
items_letters (item.Text t ∷ is) = items_letters is
items_letters (item.Value e ∷ is) = (expression_letters e, items_letters is)
items_letters (item.Zone ∷ is) = items_letters is

letters : (xs : List Letter) → AreLetters (letters_of xs)
letters [] = tt
letters (x ∷ xs) = (letter x, letters xs)

-- the variables of a tree's statement are letters
pub statement_letters : (s : RustStatement) → DoesLettered (statement_of s)
statement_letters (statement.Let x e) = (letter x, expression_letters e)
statement_letters (statement.Print items ends) = items_letters items.items
statement_letters (statement.Input xs) = letters xs.items
statement_letters (statement.If' l rel r p s) = (expression_letters l, expression_letters r, statement_letters s)
statement_letters (statement.Goto e) = expression_letters e
statement_letters (statement.Gosub e) = expression_letters e
statement_letters statement.Return = tt
statement_letters statement.End = tt
statement_letters statement.Remark = tt
