-- Expressions over the variables of a run.
use Rattle.std.specs.Prelude.{ℕ, ℤ, ◌≡◌, List, codes, Option, Some, None, Result, Ok, Err}
use Rattle.std.specs.Fmt.{signed_decimal}
use Rattle.serde_json.specs.Data.{Data}
use Rattle.serde_json.specs.View.{view}
use Rattle.tb_dap_values.specs.Bodies.{value_body}
use Rattle.tb_debug_inspection.specs.Values.{IsValueOfText}
use Rattle.tb_basic_meaning.specs.declared.evaluation.EvalError.{EvalError}
use Rattle.tb_basic_meaning.specs.declared.evaluation.EvalError.TheVariants.{DivideByZero, HasRnd}
use Rattle.tb_dap_views.specs.declared.evaluation.Evaluated.{Evaluated}
use Rattle.tb_dap_views.specs.declared.evaluation.Evaluated.TheVariants.{Known, Unknown}
use Rattle.tb_dap_views.specs.declared.evaluation.TheConstants.{DIVISION_BY_ZERO, HAS_RND}

-- a body, or why there is none
abbrev pub seen : Evaluated → Result Data (List ℕ)
seen (Known v) = Ok (view v)
seen (Unknown why) = Err why.now

-- what is answered to a text that came to this
abbrev pub answered : Option (Result ℤ EvalError) → Result Data (List ℕ)
answered (Some (Ok value)) = Ok (value_body (signed_decimal value))
answered (Some (Err DivideByZero)) = Err DIVISION_BY_ZERO.now
answered (Some (Err HasRnd)) = Err HAS_RND.now
answered None = Err (codes "what?")

-- what a text comes to over the words of variables is answered
abbrev pub HasValue : (variables text : List ℕ) → Evaluated → Type 0
HasValue variables text e = (value : Option (Result ℤ EvalError)) × IsValueOfText variables text value × (seen e ≡ answered value)
