-- The numbers that are promised, and that the code has the same ones.
use Rattle.std.specs.Prelude.{ℕ, ◌≡◌}
use Rattle.tb_engine_files.specs.declared.looks.TheConstants as code_looks

-- the most bytes of a file that are looked at
abbrev pub MOST_LOOK : ℕ
MOST_LOOK = 4096

-- how many bytes a disk image has
abbrev pub IMAGE_SIZE : ℕ
IMAGE_SIZE = 174848

-- the most bytes of a PRG file: a load address, and as many as there are addresses
abbrev pub MOST_PRG : ℕ
MOST_PRG = 65538

-- the constants of the code are these numbers
abbrev pub ConstantsAreNumbers : Type 0
ConstantsAreNumbers =
    (code_looks.MOST_LOOK ≡ MOST_LOOK) × (code_looks.IMAGE_SIZE ≡ IMAGE_SIZE) × (code_looks.MOST_PRG ≡ MOST_PRG)
