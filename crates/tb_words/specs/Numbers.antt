-- The numbers that are promised, and that the code has the same ones.
use Rattle.std.specs.Prelude.{ℕ, ◌≡◌}
use Rattle.tb_words.specs.declared.TheConstants as code

-- how many letters there are, and so how many variables
abbrev pub LETTERS : ℕ
LETTERS = 26

-- the constants of the code are these numbers
abbrev pub ConstantsAreNumbers : Type 0
ConstantsAreNumbers = (code.LETTERS ≡ LETTERS)
