-- What holds at each turn of the loop of `line_rows` in src/covering.rt.
use Rattle.std.proofs.Common.{◌≡◌, map, take}
use Rattle.std.specs.Prelude.{flat_map}
use Rattle.tb_basic_source.specs.Lines.{pair_of}
use Rattle.tb_engine_test.specs.Covering.{line_row}
use Rattle.tb_engine_test.proofs.covering.line_rows.Given as goal

abbrev pub invariant-loop-line : goal.invariant-loop-line
invariant-loop-line l = l.rows.items ≡ flat_map (line_row (map pair_of l.written)) (take l.line-index l.lines)
