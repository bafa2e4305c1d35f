-- The goals of `are_addresses` in src/rows.rt.
use Rattle.tb_engine_profile_table.proofs.rows.are_addresses.Goals as goal

pub returns : goal.returns
returns c = λ k. (c.type_inv.addresses k).fits
