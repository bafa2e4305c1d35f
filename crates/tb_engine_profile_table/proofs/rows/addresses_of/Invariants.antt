-- What holds at each turn of the loop of `addresses_of` in src/rows.rt.
use Rattle.std.proofs.Common.{◌≡◌, map, take}
use Rattle.tb_engine_profile_table.proofs.rows.addresses_of.Given as goal

abbrev pub invariant-loop-start : goal.invariant-loop-start
invariant-loop-start l = l.addresses.items ≡ map (λ s. s.address) (take l.start-index l.starts)
