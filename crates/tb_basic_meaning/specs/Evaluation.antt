-- What the value of an expression without RND is.
use Rattle.std.specs.Prelude.{◌≡◌, ℕ, ℤ, List, Result, Ok, Err, IsTrue, IsFalse}
use Rattle.tb_words.specs.Words.{word_of}
use Rattle.tb_basic_syntax.specs.Source.{Expression}
use Rattle.tb_basic_meaning.specs.declared.evaluation.EvalError.{EvalError}
use Rattle.tb_basic_meaning.specs.declared.evaluation.EvalError.TheVariants.{DivideByZero, HasRnd}
use Rattle.tb_basic_meaning.specs.Values.{Gives, Fails, value, has_random}

-- RND is checked first; else the value is the definition's with every seed, or so is its fault 2
abbrev pub IsEvaluation : Expression → List ℕ → Result ℤ EvalError → Type 0
IsEvaluation e vars (Ok v) = IsFalse (has_random e) × ((seed : ℕ) → value e vars seed ≡ Gives (word_of v) seed)
IsEvaluation e vars (Err DivideByZero) = IsFalse (has_random e) × ((seed : ℕ) → value e vars seed ≡ Fails 2)
IsEvaluation e vars (Err HasRnd) = IsTrue (has_random e)
