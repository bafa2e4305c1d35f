-- The numbers that are promised, and that the code has the same ones.
use Rattle.std.specs.Prelude.{ℕ, ◌≡◌}
use Rattle.tb_engine_findings.specs.declared.warnings.TheConstants as code

-- the highest number of a line, and the largest one of a variable
abbrev pub HIGHEST_NUMBER : ℕ
HIGHEST_NUMBER = 32767

-- the largest bound of RND that is warned of
abbrev pub LARGEST_BOUND : ℕ
LARGEST_BOUND = 15000

-- the number that is the lowest one behind a minus sign
abbrev pub LOWEST_NEGATED : ℕ
LOWEST_NEGATED = 32768

-- the bytes of `{F1}` and `{F8}` in a text
abbrev pub FIRST_KEY : ℕ
FIRST_KEY = 241

abbrev pub LAST_KEY : ℕ
LAST_KEY = 248

-- the constants of the code are these numbers
abbrev pub ConstantsAreNumbers : Type 0
ConstantsAreNumbers =
    (code.HIGHEST_NUMBER ≡ HIGHEST_NUMBER) × (code.LARGEST_BOUND ≡ LARGEST_BOUND) × (code.LOWEST_NEGATED ≡ LOWEST_NEGATED)
    × (code.FIRST_KEY ≡ FIRST_KEY) × (code.LAST_KEY ≡ LAST_KEY)
