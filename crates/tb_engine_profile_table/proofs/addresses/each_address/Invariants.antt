-- What holds at each turn of the loop of `each_address` in src/addresses.rt.
use Rattle.std.proofs.Common.{◌≡◌, map}
use Rattle.tb_engine_profile_table.specs.Addresses.{each_from}
use Rattle.tb_engine_profile_table.specs.Rows.{start_pair}
use Rattle.tb_engine_profile_table.proofs.addresses.each_address.Given as goal

abbrev pub invariant-loop-before : goal.invariant-loop-before
invariant-loop-before l = map start_pair l.starts.items ≡ each_from l.before 1
