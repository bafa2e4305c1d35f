-- A program's data in memory.
use Rattle.std.specs.Prelude.{ℕ, ℤ, ◌+◌, ◌*◌, List, map}
use Rattle.std.specs.Int.{cast_signed, w16}
use Rattle.std.specs.List.{range_with_len}
use Rattle.tb_cpu.specs.Operands.{word_from, word_in}
use Rattle.tb_words.specs.Numbers.{LETTERS}
use Rattle.tb_compiled_kept.specs.Addresses.{RETURN_HIGH, RETURN_LOW, VARS}

-- the word of the variable at an index in the alphabet
abbrev pub variable_in : (ℕ → ℕ) → ℕ → ℕ
variable_in m n = word_in m (VARS + 2 * n)

-- the words of all variables, A first
abbrev pub variables_in : (ℕ → ℕ) → List ℕ
variables_in m = map (variable_in m) (range_with_len 0 LETTERS)

-- a variable's value: its word, read as signed
abbrev pub value_in : (ℕ → ℕ) → ℕ → ℤ
value_in m n = cast_signed w16 (variable_in m n)

-- the values of all variables, A first
unfoldable pub values_in : (ℕ → ℕ) → List ℤ
values_in m = map (value_in m) (range_with_len 0 LETTERS)

-- the address to which the return at an index of the return list goes; the oldest is at 0
abbrev pub return_in : (ℕ → ℕ) → ℕ → ℕ
return_in m k = word_from (m (RETURN_LOW + k)) (m (RETURN_HIGH + k))
