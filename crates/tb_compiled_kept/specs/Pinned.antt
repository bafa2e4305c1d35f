-- The public constants are the addresses that the definitions use.
use Rattle.std.specs.Prelude.{◌≡◌}
use Rattle.tb_compiled_kept.specs.declared.addresses.TheConstants as public
use Rattle.tb_compiled_kept.specs.Addresses.{LINES_AT, POINTER, VARS, COLUMN, OPEN, SEEDED, HOME_S, SEED, LINE, NOTES, SLOTS, HELD, LEFT, RIGHT, RESULT, TABLE, WANTED, COUNT, LENGTH, BYTE, SCRATCH, RETURN_LOW, RETURN_HIGH}

-- the address of the lines' code
abbrev pub CodeStands : Type 0
CodeStands = (public.LINES_AT ≡ LINES_AT)

-- the addresses of what routines are given, and of what they give
abbrev pub ArgumentsStand : Type 0
ArgumentsStand =
    (public.POINTER ≡ POINTER) × (public.LENGTH ≡ LENGTH) × (public.LEFT ≡ LEFT) × (public.RIGHT ≡ RIGHT) × (public.RESULT ≡ RESULT)
    × (public.TABLE ≡ TABLE) × (public.WANTED ≡ WANTED) × (public.COUNT ≡ COUNT)

-- the addresses of what is kept between calls
abbrev pub StateStands : Type 0
StateStands =
    (public.VARS ≡ VARS) × (public.COLUMN ≡ COLUMN) × (public.OPEN ≡ OPEN) × (public.SEEDED ≡ SEEDED) × (public.HOME_S ≡ HOME_S)
    × (public.SEED ≡ SEED) × (public.LINE ≡ LINE) × (public.NOTES ≡ NOTES) × (public.RETURN_LOW ≡ RETURN_LOW) × (public.RETURN_HIGH ≡ RETURN_HIGH)

-- the addresses that the lines' code and the routines work with
abbrev pub WorkStands : Type 0
WorkStands = (public.SLOTS ≡ SLOTS) × (public.HELD ≡ HELD) × (public.BYTE ≡ BYTE) × (public.SCRATCH ≡ SCRATCH)

-- all of these: each public constant is the address that the definitions have for it
abbrev pub ConstantsAreAddresses : Type 0
ConstantsAreAddresses = CodeStands × (ArgumentsStand × (StateStands × WorkStands))
