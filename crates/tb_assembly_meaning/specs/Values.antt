-- The value of an expression: each step puts a value on a stack, or replaces the last one or two by what an operator makes of them.
use Rattle.std.specs.Prelude.{ℕ, ◌*◌, ◌/◌, ◌^◌, ℤ, pos, negsuc, ◌+ℤ◌, ◌-ℤ◌, ◌*ℤ◌, neg_ℤ, int_div, Bool, false, Option, Some, None, Result, Ok, Err}
use Rattle.std.specs.Prelude.{List, [], ◌∷◌, nat_lt, eqb, bit_and, bit_or, bit_xor, if◌then◌else◌}
use Rattle.std.specs.Int.{int_div_euclid, int_rem_euclid}
use Rattle.tb_assembly_text.specs.declared.expressions.Unary.{Unary}
use Rattle.tb_assembly_text.specs.declared.expressions.Unary.TheVariants.{Negative as NegativeOf, Low, High}
use Rattle.tb_assembly_text.specs.declared.expressions.Binary.{Binary}
use Rattle.tb_assembly_text.specs.declared.expressions.Binary.TheVariants.{Add, Subtract, Multiply, Divide, And, Or, Xor, ShiftLeft}
use Rattle.tb_assembly_text.specs.Expressions.{Mark, Sum, value as number, named as called, here as place, unary, binary}
use Rattle.tb_assembly_meaning.specs.declared.faults.Wrong.{Wrong}
use Rattle.tb_assembly_meaning.specs.declared.faults.Wrong.TheVariants.{UnknownName, NotYetKnown, Overflow, DivisionByZero, Negative, ShiftTooFar}
use Rattle.tb_assembly_meaning.specs.declared.faults.MeaningFault.{MeaningFault}
use Rattle.tb_assembly_meaning.specs.Names.{Env}

-- whether a number is from -2147483648 to 2147483647
abbrev pub is_small : ℤ → Bool
is_small (pos n) = nat_lt n 2147483648
is_small (negsuc n) = nat_lt n 2147483648

-- a number of 32 bits, or what is refused of any other
abbrev pub checked : ℤ → Result ℤ Wrong
checked z = if is_small z then Ok z else Err Overflow

-- a number that may be missing since it has more than 32 bits
abbrev pub or_overflow : Option ℤ → Result ℤ Wrong
or_overflow (Some z) = Ok z
or_overflow None = Err Overflow

-- a number of which single bits are asked
abbrev pub natural : ℤ → Result ℕ Wrong
natural (pos n) = Ok n
natural (negsuc n) = Err Negative

-- what an operator before its operand makes of it
abbrev pub unary_value : Unary → ℤ → Result ℤ Wrong
unary_value NegativeOf z = checked (neg_ℤ z)
unary_value Low z = Ok (int_rem_euclid z (pos 256))
unary_value High z = Ok (int_rem_euclid (int_div_euclid z (pos 256)) (pos 256))

-- whether a number is 0
abbrev pub is_zero : ℤ → Bool
is_zero (pos n) = eqb n 0
is_zero (negsuc n) = false

-- a quotient, cut towards 0
abbrev pub quotient : ℤ → ℤ → Result ℤ Wrong
quotient a b = if is_zero b then Err DivisionByZero else checked (int_div a b)

-- bits moved to the left; for any other operator to the right
abbrev pub moved : Binary → ℕ → ℕ → ℕ
moved ShiftLeft m n = m * 2 ^ n
moved b m n = m / 2 ^ n

-- a number whose bits are moved, by 31 at most
abbrev pub shifted : Binary → ℕ → ℕ → Result ℤ Wrong
shifted b m n = if nat_lt 31 n then Err ShiftTooFar else checked (pos (moved b m n))

-- what an operator makes of single bits
abbrev pub bits_value : Binary → ℕ → ℕ → Result ℤ Wrong
bits_value And m n = checked (pos (bit_and m n))
bits_value Or m n = checked (pos (bit_or m n))
bits_value Xor m n = checked (pos (bit_xor m n))
bits_value b m n = shifted b m n

-- what an operator makes of the single bits of two numbers, or what is wrong with one that may have none
abbrev pub bits_of : Binary → Result ℕ Wrong → Result ℕ Wrong → Result ℤ Wrong
bits_of b (Err w) n = Err w
bits_of b (Ok m) (Err w) = Err w
bits_of b (Ok m) (Ok n) = bits_value b m n

-- what an operator makes of its operands
abbrev pub binary_value : Binary → ℤ → ℤ → Result ℤ Wrong
binary_value Add a b = checked (a +ℤ b)
binary_value Subtract a b = checked (a -ℤ b)
binary_value Multiply a b = checked (a *ℤ b)
binary_value Divide a b = quotient a b
binary_value op a b = bits_of op (natural a) (natural b)

-- the value of what a name stands for
abbrev pub value_named : Option (Option ℤ) → Result ℤ Wrong
value_named (Some (Some z)) = Ok z
value_named (Some None) = Err NotYetKnown
value_named None = Err UnknownName

-- a value on the stack, unless it is refused at a column
abbrev pub pushed : ℕ → Result ℤ Wrong → List ℤ → Result (List ℤ) MeaningFault
pushed c (Ok z) st = Ok (z ∷ st)
pushed c (Err w) st = Err (record { column = c; wrong = w })

-- an operator with one operand
abbrev pub on_one : ℕ → Unary → List ℤ → Result (List ℤ) MeaningFault
on_one c op [] = Ok []
on_one c op (a ∷ st) = pushed c (unary_value op a) st

-- an operator with two operands, the right one first
abbrev pub on_two : ℕ → Binary → List ℤ → Result (List ℤ) MeaningFault
on_two c op [] = Ok []
on_two c op (b ∷ []) = Ok []
on_two c op (b ∷ a ∷ st) = pushed c (binary_value op a b) st

-- the stack after a step in a statement at an address, with what names stand for
abbrev pub stepped : Env → ℤ → Mark → List ℤ → Result (List ℤ) MeaningFault
stepped env at (c, number n) st = pushed c (checked (pos n)) st
stepped env at (c, called w) st = pushed c (value_named (env w)) st
stepped env at (c, place) st = pushed c (Ok at) st
stepped env at (c, unary op) st = on_one c op st
stepped env at (c, binary op) st = on_two c op st

-- what is done with a stack, unless a step before was refused
abbrev pub then_steps : Result (List ℤ) MeaningFault → (List ℤ → Result (List ℤ) MeaningFault) → Result (List ℤ) MeaningFault
then_steps (Ok st) go = go st
then_steps (Err f) go = Err f

-- the stack after steps, or the first of them that is refused
abbrev pub run : Env → ℤ → List Mark → List ℤ → Result (List ℤ) MeaningFault
run env at [] st = Ok st
run env at (m ∷ ms) st = then_steps (stepped env at m st) (run env at ms)

-- the last value on a stack
abbrev pub top : List ℤ → ℤ
top [] = pos 0
top (z ∷ st) = z

-- the last value on a stack, unless a step was refused
abbrev pub top_of : Result (List ℤ) MeaningFault → Result ℤ MeaningFault
top_of (Ok st) = Ok (top st)
top_of (Err f) = Err f

-- the value of an expression in a statement at an address, with what names stand for
abbrev pub value : Env → ℤ → Sum → Result ℤ MeaningFault
value env at e = top_of (run env at e.1 [])
