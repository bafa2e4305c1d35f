-- The numbers that are promised, and that the code has the same ones.
use Rattle.std.specs.Prelude.{ℕ, ◌≡◌}
use Rattle.tb_basic_signs.specs.declared.characters.TheConstants as code

-- the most times that a sign may stand for its byte
abbrev pub MOST_TIMES : ℕ
MOST_TIMES = 255

-- the constants of the code are these numbers
abbrev pub ConstantsAreNumbers : Type 0
ConstantsAreNumbers = (code.MOST_TIMES ≡ MOST_TIMES)
