-- An expression without RND has a value, or divides by zero.
use Rattle.std.proofs.Common.{◌≡◌, ℕ, ◌<◌, ◌≤◌, Bool, true, false, ◌||◌, List, length, Option, Some, None, option_map, slice_get, slice_index, refl, sym, ap, ◌∙◌, arith}
use Rattle.std.specs.Prelude.{ℤ, IsFalse}
use Rattle.std.specs.Option.{ok_or}
use Rattle.std.proofs.lemmas.Option.{slice_get-get_or}
use Rattle.tb_words.specs.Words.{negated, word_of}
use Rattle.tb_basic_syntax.specs.declared.expressions.Operator.{Operator}
use Rattle.tb_basic_syntax.specs.Source.{Expression, Number, Variable, Negate, Binary, Random}
use Rattle.tb_basic_meaning.specs.declared.evaluation.EvalError.TheVariants.{DivideByZero}
use Rattle.tb_basic_meaning.specs.Values.{Gives, valued_then, apply, given, value, has_random, both, known_value}
use Rattle.tb_basic_meaning.specs.Evaluation.{IsEvaluation}
use Rattle.tb_basic_meaning.proofs.Lettered.{IsLettered}

negate_answer : (x : Option ℕ) (seed : ℕ) → valued_then (given x seed) (λ v seed'. Gives (negated v) seed') ≡ given (option_map negated x) seed
negate_answer (Some v) seed = refl
negate_answer None seed = refl

binary_answer : (op : Operator) (x y : Option ℕ) (seed : ℕ)
    → valued_then (given x seed) (λ a seed'. valued_then (given y seed') (λ b seed''. given (apply op a b) seed'')) ≡ given (both (apply op) x y) seed
binary_answer op (Some a) (Some b) seed = refl
binary_answer op (Some a) None seed = refl
binary_answer op None y seed = refl

or_left : (a b : Bool) → IsFalse (a || b) → IsFalse a
or_left true b h = h
or_left false b h = refl

or_right : (a b : Bool) → IsFalse (a || b) → IsFalse b
or_right true b h = absurd cc
or_right false b h = h

variable_answer : (vars : List ℕ) (x seed : ℕ) → x < length vars → Gives (slice_index vars x) seed ≡ given (slice_get vars x) seed
variable_answer vars x seed lt = sym (ap (λ y. given y seed) (slice_get-get_or vars x 0 lt))

-- the value of an expression without RND, with every seed, is `known_value` or fault 2
pub answers : (vars : List ℕ) → 26 ≤ length vars → (e : Expression) → IsFalse (has_random e) → IsLettered e → (seed : ℕ) → value e vars seed ≡ given (known_value e vars) seed
answers vars len (Number n) h l seed = refl
answers vars len (Variable x) h l seed = variable_answer vars x seed (omega arith)
answers vars len (Negate e) h l seed =
    ap (λ w. valued_then w (λ v seed'. Gives (negated v) seed')) (answers vars len e h l seed) ∙ negate_answer (known_value e vars) seed
answers vars len (Binary op x y) h l seed =
    let left = λ (seed : ℕ). answers vars len x (or_left (has_random x) (has_random y) h) l.0 seed in
    let right = λ (seed : ℕ). answers vars len y (or_right (has_random x) (has_random y) h) l.1 seed in
    ap (λ w. valued_then w (λ a seed'. valued_then (value y vars seed') (λ b seed''. given (apply op a b) seed''))) (left seed)
    ∙ then_same (known_value x vars) right
    ∙ binary_answer op (known_value x vars) (known_value y vars) seed
  where
    then_same : (z : Option ℕ) → ((s : ℕ) → value y vars s ≡ given (known_value y vars) s)
        → valued_then (given z seed) (λ a seed'. valued_then (value y vars seed') (λ b seed''. given (apply op a b) seed''))
        ≡ valued_then (given z seed) (λ a seed'. valued_then (given (known_value y vars) seed') (λ b seed''. given (apply op a b) seed''))
    then_same (Some a) right = ap (λ w. valued_then w (λ b seed''. given (apply op a b) seed'')) (right seed)
    then_same None right = refl
answers vars len (Random e) h l seed = absurd cc

-- an answer whose word is the known value keeps the promise of `eval`
pub evaluated : (e : Expression) (vars : List ℕ) → 26 ≤ length vars → IsFalse (has_random e) → IsLettered e → (x : Option ℤ) → option_map word_of x
    ≡ known_value e vars → IsEvaluation e vars (ok_or x DivideByZero)
evaluated e vars len h l (Some v) same = (h, λ seed. answers vars len e h l seed ∙ ap (λ x. given x seed) (sym same))
evaluated e vars len h l None same = (h, λ seed. answers vars len e h l seed ∙ ap (λ x. given x seed) (sym same))
