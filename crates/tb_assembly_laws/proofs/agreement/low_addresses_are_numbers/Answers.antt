-- The goal of `low_addresses_are_numbers` in src/agreement.rt.
use Rattle.tb_assembly_laws.proofs.Above as above
use Rattle.tb_assembly_laws.proofs.agreement.low_addresses_are_numbers.Goals as goal

pub returns : goal.returns
returns c = above.low_addresses_are_numbers
