-- The code of a constant is one instruction.
use Rattle.std.proofs.Common.{◌≡◌, ℕ, List, [], ◌∷◌, Option, Some, ap}
use Rattle.tb_basic_syntax.specs.Source.{Expression, Number, Variable, Negate, Binary, Random}
use Rattle.tb_lower.specs.Slots.{Instr, Put}
use Rattle.tb_basic_meaning.specs.Values.{constant}
use Rattle.tb_lower.specs.Lowered.{or_constant, value_code}

-- a constant is one instruction
or_constant-some : (x : Option ℕ) (k v : ℕ) (code : List Instr) → x ≡ Some v → or_constant x k code ≡ Put k v ∷ []
or_constant-some x k v code e = ap (λ y. or_constant y k code) e

-- an expression that is a constant has the code of that constant
pub constant_code : (e : Expression) (k v : ℕ) → constant e ≡ Some v → value_code e k ≡ Put k v ∷ []
constant_code (Number n) k v e = cc
constant_code (Variable x) k v e = absurd cc
constant_code (Negate e') k v e = or_constant-some (constant (Negate e')) k v _ e
constant_code (Binary op l r) k v e = or_constant-some (constant (Binary op l r)) k v _ e
constant_code (Random e') k v e = absurd cc
