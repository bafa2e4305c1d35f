-- The numbers that are promised, and that the code has the same ones.
use Rattle.std.specs.Prelude.{ℕ, ◌≡◌}
use Rattle.tb_assembly_files.specs.declared.faults.TheConstants as code

-- how deep includes may be
abbrev pub DEEPEST : ℕ
DEEPEST = 16

-- how many lines are read at least before no more file is included
abbrev pub MOST_LINES : ℕ
MOST_LINES = 1048576

-- the constants of the code are these numbers
abbrev pub ConstantsAreNumbers : Type 0
ConstantsAreNumbers = (code.DEEPEST ≡ DEEPEST) × (code.MOST_LINES ≡ MOST_LINES)
