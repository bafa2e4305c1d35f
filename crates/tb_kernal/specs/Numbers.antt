-- The numbers that are promised, and that the code has the same ones.
use Rattle.std.specs.Prelude.{ℕ, ◌≡◌}
use Rattle.tb_kernal.specs.declared.rom.TheConstants as code

-- the service that sends a byte
abbrev pub CHROUT : ℕ
CHROUT = 0xFFD2

-- the service that gives a byte of what was typed
abbrev pub CHRIN : ℕ
CHRIN = 0xFFCF

-- the service that tells which key was pressed
abbrev pub GETIN : ℕ
GETIN = 0xFFE4

-- the constants of the code are these numbers
abbrev pub ConstantsAreNumbers : Type 0
ConstantsAreNumbers = (code.CHROUT ≡ CHROUT) × (code.CHRIN ≡ CHRIN) × (code.GETIN ≡ GETIN)
