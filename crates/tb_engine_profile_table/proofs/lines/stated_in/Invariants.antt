-- What holds at each turn of the loop of `stated_in` in src/lines.rt.
use Rattle.std.proofs.Common.{◌≡◌, map, take}
use Rattle.tb_engine_profile_table.specs.Lines.{line_pair, stated_in}
use Rattle.tb_basic_source.specs.Lines.{pair_of}
use Rattle.tb_engine_profile_table.proofs.lines.stated_in.Given as goal

abbrev pub invariant-loop-row : goal.invariant-loop-row
invariant-loop-row l = map line_pair l.lines.items ≡ stated_in (map pair_of l.written) (take l.row-index l.rows)
