-- The public constants are the addresses that the definitions use.
use Rattle.std.specs.Prelude.{◌≡◌}
use Rattle.tb_runtime16.specs.declared.addresses.TheConstants as public
use Rattle.tb_runtime16.specs.Addresses.{PROLOGUE_AT}

-- the block begins where the definitions have it
abbrev pub ConstantsAreAddresses : Type 0
ConstantsAreAddresses = (public.BLOCK_AT ≡ PROLOGUE_AT)
