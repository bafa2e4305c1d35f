-- The values of expressions that are typed.
use Rattle.std.specs.Prelude.{ℕ, ℤ, ◌≡◌, List, Option, Some, None, Result, Ok, Err}
use Rattle.tb_basic_syntax.specs.Source.{Expression}
use Rattle.tb_parser.specs.Answers.{InLineOne}
use Rattle.tb_parser.specs.Files.{FileRefusal}
use Rattle.tb_parser.specs.Readings.{ExpressionIs}
use Rattle.tb_basic_meaning.specs.Evaluation.{IsEvaluation}
use Rattle.tb_basic_meaning.specs.declared.evaluation.EvalError.{EvalError}

-- what a text that was read comes to, over the words of variables: its expression's value, or none of a text that is no expression
abbrev pub ComesTo : List ℕ → Result Expression FileRefusal → Option (Result ℤ EvalError) → Type 0
ComesTo variables (Ok e) (Some value) = IsEvaluation e variables value
ComesTo variables (Ok e) None = ⊥
ComesTo variables (Err r) value = value ≡ None

-- what a text comes to
abbrev pub IsValueOfText : List ℕ → List ℕ → Option (Result ℤ EvalError) → Type 0
IsValueOfText variables text value = (r : Result Expression FileRefusal) × InLineOne (ExpressionIs text) r × ComesTo variables r value
