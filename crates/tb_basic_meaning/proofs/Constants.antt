-- Constant parts of expressions.
use Rattle.std.proofs.Common.{◌≡◌, ℕ, ◌<◌, Bool, true, false, if◌then◌else◌, nat_eq, List, [], Option, Some, None, option_map, slice_get}
use Rattle.std.proofs.Common.{slice_index, refl, ap, ◌∙◌, subst, arith}
use Rattle.tb_words.specs.Words.{word, negated, with_sign, quotient}
use Rattle.tb_basic_syntax.specs.declared.expressions.Operator.{Operator}
use Rattle.tb_basic_syntax.specs.declared.expressions.Operator.TheVariants.{Add, Subtract, Multiply, Divide}
use Rattle.tb_basic_syntax.specs.Source.{Expression, Number, Variable, Negate, Binary, Random}
use Rattle.tb_basic_meaning.specs.Values.{Gives, valued_then, apply, given, value, both, known_value, constant}

-- variables that have the values of the known ones
abbrev Extends : List ℕ → List ℕ → Type 0
Extends known vars = (x v : ℕ) → slice_get known x ≡ Some v → slice_index vars x ≡ v

abbrev IsSure : List ℕ → ℕ → Expression → Option ℕ → Type 0
IsSure vars seed e (Some v) = value e vars seed ≡ Gives v seed
IsSure vars seed e None = Unit {0}

variable_sure : (vars : List ℕ) (seed x : ℕ) (y : Option ℕ) → ((v : ℕ) → y ≡ Some v → slice_index vars x ≡ v) → IsSure vars seed (Variable x) y
variable_sure vars seed x (Some v) h = ap (λ u. Gives u seed) (h v refl)
variable_sure vars seed x None h = tt

negate_sure : (vars : List ℕ) (seed : ℕ) (e : Expression) (x : Option ℕ) → IsSure vars seed e x → IsSure vars seed (Negate e) (option_map negated x)
negate_sure vars seed e (Some v) h = ap (λ w. valued_then w (λ v seed'. Gives (negated v) seed')) h
negate_sure vars seed e None h = tt

binary_sure : (vars : List ℕ) (seed : ℕ) (op : Operator) (l r : Expression) (x y : Option ℕ) → IsSure vars seed l x → IsSure vars seed r y
    → IsSure vars seed (Binary op l r) (both (apply op) x y)
binary_sure vars seed op l r (Some a) (Some b) h h' =
    worked (apply op a b)
    (ap (λ w. valued_then w (λ a seed'. valued_then (value r vars seed') (λ b seed''. given (apply op a b) seed''))) h
    ∙ ap (λ w. valued_then w (λ b seed''. given (apply op a b) seed'')) h')
  where
    worked : (z : Option ℕ) → value (Binary op l r) vars seed ≡ given z seed → IsSure vars seed (Binary op l r) z
    worked (Some v) e = e
    worked None e = tt
binary_sure vars seed op l r (Some a) None h h' = tt
binary_sure vars seed op l r None y h h' = tt

sure : (e : Expression) (known vars : List ℕ) (seed : ℕ) → Extends known vars → IsSure vars seed e (known_value e known)
sure (Number n) known vars seed h = refl
sure (Variable x) known vars seed h = variable_sure vars seed x (slice_get known x) (h x)
sure (Negate e) known vars seed h = negate_sure vars seed e (known_value e known) (sure e known vars seed h)
sure (Binary op l r) known vars seed h =
    binary_sure vars seed op l r (known_value l known) (known_value r known) (sure l known vars seed h) (sure r known vars seed h)
sure (Random e) known vars seed h = tt

nothing_extends : (vars : List ℕ) → Extends [] vars
nothing_extends vars x v h = absurd cc

-- a constant expression has its constant's value with every seed, and keeps the seed
pub constant_value : (e : Expression) (v : ℕ) (vars : List ℕ) (seed : ℕ) → constant e ≡ Some v → value e vars seed ≡ Gives v seed
constant_value e v vars seed h = subst (IsSure vars seed e) h (sure e [] vars seed (nothing_extends vars))

-- a constant is a word
abbrev IsSmall : Option ℕ → Type 0
IsSmall (Some v) = v < 65536
IsSmall None = Unit {0}

apply_small : (op : Operator) (a b : ℕ) → IsSmall (apply op a b)
apply_small Add a b = omega arith
apply_small Subtract a b = omega arith
apply_small Multiply a b = omega arith
apply_small Divide a b = divided (nat_eq b 0)
  where
    signed_small : (negative : Bool) (n : ℕ) → with_sign negative n < 65536
    signed_small true n = omega arith
    signed_small false n = omega arith

    divided : (zero : Bool) → IsSmall (if zero then None else Some (quotient a b))
    divided true = tt
    divided false = signed_small _ _

negated_small : (x : Option ℕ) → IsSmall (option_map negated x)
negated_small (Some v) = omega arith
negated_small None = tt

both_small : (op : Operator) (x y : Option ℕ) → IsSmall (both (apply op) x y)
both_small op (Some a) (Some b) = apply_small op a b
both_small op (Some a) None = tt
both_small op None y = tt

small : (e : Expression) → IsSmall (constant e)
small (Number n) = omega arith
small (Variable x) = tt
small (Negate e) = negated_small (constant e)
small (Binary op l r) = both_small op (constant l) (constant r)
small (Random e) = tt

-- the value of a constant expression is below 65,536
pub constant_small : (e : Expression) (v : ℕ) → constant e ≡ Some v → v < 65536
constant_small e v h = subst IsSmall h (small e)

-- so it is its own word
pub constant_word : (e : Expression) (v : ℕ) → constant e ≡ Some v → word v ≡ v
constant_word e v h = let small : v < 65536 = constant_small e v h in omega arith
