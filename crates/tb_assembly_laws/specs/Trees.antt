-- Expressions as trees: how they are written, which operators bind first, and which value they have.
use Rattle.std.specs.Prelude.{◌≡◌, ◌<◌, ◌≤◌, ℕ, ℤ, pos, Result, Ok, Err, List, [], ◌∷◌, ◌++◌}
use Rattle.tb_assembly_text.specs.declared.tokens.Sign.{Sign}
use Rattle.tb_assembly_text.specs.declared.tokens.Sign.TheVariants.{Plus, Minus, Star, Slash, And as AndSign, Or as OrSign, Xor as XorSign, ShiftLeft as LeftSign, ShiftRight as RightSign, Less, Greater, Left, Right}
use Rattle.tb_assembly_text.specs.declared.expressions.Unary.{Unary}
use Rattle.tb_assembly_text.specs.declared.expressions.Unary.TheVariants.{Negative, Low, High}
use Rattle.tb_assembly_text.specs.declared.expressions.Binary.{Binary}
use Rattle.tb_assembly_text.specs.declared.expressions.Binary.TheVariants.{Add, Subtract, Multiply, Divide, And, Or, Xor, ShiftLeft, ShiftRight}
use Rattle.tb_assembly_text.specs.Names.{full_name}
use Rattle.tb_assembly_text.specs.Tokens.{Placed, word, number, sign}
use Rattle.tb_assembly_text.specs.Expressions.{Mark, level_of, value, named, here, unary, binary}
use Rattle.tb_assembly_meaning.specs.declared.faults.Wrong.{Wrong}
use Rattle.tb_assembly_meaning.specs.declared.faults.MeaningFault.{MeaningFault}
use Rattle.tb_assembly_meaning.specs.Names.{Env}
use Rattle.tb_assembly_meaning.specs.Values.{checked, unary_value, binary_value, value_named}

-- an expression, with the column of each part: a number, a name, the address of the statement, an operator before an operand or
-- between two, or an expression in parentheses
pub data Tree : Type 0 where
  numbers : ℕ → ℕ → Tree
  names : ℕ → List ℕ → Tree
  stands : ℕ → Tree
  before : ℕ → Unary → Tree → Tree
  between : ℕ → Binary → Tree → Tree → Tree
  within : ℕ → ℕ → Tree → Tree

-- the sign of an operator before its operand
abbrev pub unary_sign : Unary → Sign
unary_sign Negative = Minus
unary_sign Low = Less
unary_sign High = Greater

-- the sign of an operator between its operands
abbrev pub binary_sign : Binary → Sign
binary_sign Add = Plus
binary_sign Subtract = Minus
binary_sign Multiply = Star
binary_sign Divide = Slash
binary_sign And = AndSign
binary_sign Or = OrSign
binary_sign Xor = XorSign
binary_sign ShiftLeft = LeftSign
binary_sign ShiftRight = RightSign

-- the tokens of a tree
abbrev pub written : Tree → List Placed
written (numbers c n) = (c, number n) ∷ []
written (names c w) = (c, word w) ∷ []
written (stands c) = (c, sign Star) ∷ []
written (before c u t) = (c, sign (unary_sign u)) ∷ written t
written (between c b l r) = written l ++ (c, sign (binary_sign b)) ∷ written r
written (within c d t) = (c, sign Left) ∷ written t ++ (d, sign Right) ∷ []

-- how tightly a tree holds together: as its operator binds; 7, which is more than any operator, if it has none between operands
abbrev pub level : Tree → ℕ
level (between c b l r) = level_of b
level t = 7

-- Operators bind as they should: the left operand of one holds together as tightly at least, so those of one level are taken from
-- the left; the right operand more tightly; and one before its operand binds more tightly than any between two.
abbrev pub IsBound : Tree → Type 0
IsBound (numbers c n) = Unit {0}
IsBound (names c w) = Unit {0}
IsBound (stands c) = Unit {0}
IsBound (before c u t) = (level t ≡ 7) × IsBound t
IsBound (between c b l r) = (level_of b ≤ level l) × (level_of b < level r) × IsBound l × IsBound r
IsBound (within c d t) = IsBound t

-- the steps of a tree after a plain label: those of its operands, and then its operator's
abbrev pub steps_of : List ℕ → Tree → List Mark
steps_of scope (numbers c n) = (c, value n) ∷ []
steps_of scope (names c w) = (c, named (full_name scope w)) ∷ []
steps_of scope (stands c) = (c, here) ∷ []
steps_of scope (before c u t) = steps_of scope t ++ (c, unary u) ∷ []
steps_of scope (between c b l r) = steps_of scope l ++ (steps_of scope r ++ (c, binary b) ∷ [])
steps_of scope (within c d t) = steps_of scope t

-- a value, unless it is refused at a column
abbrev pub unless : ℕ → Result ℤ Wrong → Result ℤ MeaningFault
unless c (Ok z) = Ok z
unless c (Err w) = Err (record { column = c; wrong = w })

-- what is made of a value, unless that is refused
abbrev pub with_value : Result ℤ MeaningFault → (ℤ → Result ℤ MeaningFault) → Result ℤ MeaningFault
with_value (Ok z) f = f z
with_value (Err e) f = Err e

-- the value of a tree after a plain label, in a statement at an address, with what names stand for
abbrev pub value_of : List ℕ → Env → ℤ → Tree → Result ℤ MeaningFault
value_of scope env at (numbers c n) = unless c (checked (pos n))
value_of scope env at (names c w) = unless c (value_named (env (full_name scope w)))
value_of scope env at (stands c) = Ok at
value_of scope env at (before c u t) = with_value (value_of scope env at t) (λ a. unless c (unary_value u a))
value_of scope env at (between c b l r) =
    with_value (value_of scope env at l) (λ x. with_value (value_of scope env at r) (λ y. unless c (binary_value b x y)))
value_of scope env at (within c d t) = value_of scope env at t
