-- The numbers that are promised, and that the code has the same ones.
use Rattle.std.specs.Prelude.{ℕ, ◌≡◌}
use Rattle.tb_engine_profile_table.specs.declared.figures.TheConstants as code

-- the cycles of a second of a PAL machine
abbrev pub CYCLES_A_SECOND : ℕ
CYCLES_A_SECOND = 985248

-- the constants of the code are these numbers
abbrev pub ConstantsAreNumbers : Type 0
ConstantsAreNumbers = (code.CYCLES_A_SECOND ≡ CYCLES_A_SECOND)
