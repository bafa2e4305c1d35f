-- What holds at each turn of the loop of `rows_of` in src/rows.rt.
use Rattle.std.proofs.Common.{◌≡◌, map, take}
use Rattle.tb_engine_profile_table.specs.Rows.{row_in}
use Rattle.tb_engine_profile_table.proofs.rows.rows_of.Given as goal

abbrev pub invariant-loop-start : goal.invariant-loop-start
invariant-loop-start l = l.rows.items ≡ map (λ s. row_in l.tally s.line s.address) (take l.start-index l.starts)
