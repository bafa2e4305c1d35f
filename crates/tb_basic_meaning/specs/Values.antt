-- What an expression is worth.
use Rattle.std.specs.Prelude.{ℕ, ◌+◌, ◌-◌, ◌*◌, ◌%◌, ◌||◌, Bool, true, false, List, if◌then◌else◌, nat_le, nat_eq, Option, Some}
use Rattle.std.specs.Prelude.{None, slice_index, [], option_map, slice_get}
use Rattle.tb_basic_syntax.specs.declared.expressions.Operator.{Operator}
use Rattle.tb_basic_syntax.specs.declared.expressions.Operator.TheVariants.{Add, Subtract, Multiply, Divide}
use Rattle.tb_basic_syntax.specs.Source.{Expression, Number, Variable, Negate, Binary, Random}
use Rattle.tb_words.specs.Words.{word, negated, quotient, seed_after}

-- a value with the seed after it, or a fault's number
pub data Valued : Type 0 where
  Gives : (v seed : ℕ) → Valued
  Fails : (k : ℕ) → Valued

-- goes on with a value, or fails
abbrev pub valued_then : Valued → (ℕ → ℕ → Valued) → Valued
valued_then (Gives v seed) f = f v seed
valued_then (Fails k) f = Fails k

-- an operator on two words, `None` for a division by zero
abbrev pub apply : Operator → ℕ → ℕ → Option ℕ
apply Add a b = Some (word (a + b))
apply Subtract a b = Some (word (a + (65536 - b)))
apply Multiply a b = Some (word (a * b))
apply Divide a b = if nat_eq b 0 then None else Some (quotient a b)

-- an operator's word, or fault 2
abbrev pub given : Option ℕ → ℕ → Valued
given (Some v) seed = Gives v seed
given None seed = Fails 2

-- RND of a bound: fault 3 if the bound is below 1
abbrev pub random : ℕ → ℕ → Valued
random bound seed =
    if nat_eq bound 0 || nat_le 32768 bound then Fails 3 else Gives (seed_after seed % bound) (seed_after seed)

-- the value of an expression, the left operand first
abbrev pub value : Expression → List ℕ → ℕ → Valued
value (Number n) vars seed = Gives (word n) seed
value (Variable x) vars seed = Gives (slice_index vars x) seed
value (Negate e) vars seed = valued_then (value e vars seed) (λ v seed'. Gives (negated v) seed')
value (Binary op l r) vars seed =
    valued_then (value l vars seed) (λ a seed'. valued_then (value r vars seed') (λ b seed''. given (apply op a b) seed''))
value (Random e) vars seed = valued_then (value e vars seed) random

-- whether RND occurs anywhere in an expression
abbrev pub has_random : Expression → Bool
has_random (Number n) = false
has_random (Variable x) = false
has_random (Negate e) = has_random e
has_random (Binary op l r) = has_random l || has_random r
has_random (Random e) = true

-- the word of an operator on two words, if there are two and it has one
abbrev pub both : (ℕ → ℕ → Option ℕ) → Option ℕ → Option ℕ → Option ℕ
both f (Some a) (Some b) = f a b
both f (Some a) None = None
both f None y = None

-- the value of an expression without RND, if no division is by zero and each variable is one of those given
abbrev pub known_value : Expression → List ℕ → Option ℕ
known_value (Number n) vars = Some (word n)
known_value (Variable x) vars = slice_get vars x
known_value (Negate e) vars = option_map negated (known_value e vars)
known_value (Binary op l r) vars = both (apply op) (known_value l vars) (known_value r vars)
known_value (Random e) vars = None

-- the value of an expression without variables and RND, if no division is by zero
abbrev pub constant : Expression → Option ℕ
constant e = known_value e []
