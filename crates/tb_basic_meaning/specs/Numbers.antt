-- The numbers that are promised, and that the code has the same ones.
use Rattle.std.specs.Prelude.{ℕ, ◌≡◌}
use Rattle.tb_basic_meaning.specs.declared.interpreter.TheConstants as code

-- how many returns can be noted
abbrev pub DEEPEST : ℕ
DEEPEST = 500

-- the constants of the code are these numbers
abbrev pub ConstantsAreNumbers : Type 0
ConstantsAreNumbers = (code.DEEPEST ≡ DEEPEST)
