-- What holds at each turn of the loop of `rows_in` in src/pieces.rt.
use Rattle.std.proofs.Common.{◌≡◌, map, take}
use Rattle.std.specs.Prelude.{flat_map}
use Rattle.tb_compiled.specs.Compiled.{pair_of as start_pair}
use Rattle.tb_basic_source.specs.Lines.{pair_of}
use Rattle.tb_engine_page.specs.Pages.{row_in}
use Rattle.tb_engine_page.proofs.pieces.rows_in.Given as goal

abbrev pub invariant-loop-start : goal.invariant-loop-start
invariant-loop-start l = l.text.items ≡ flat_map (row_in (map pair_of l.written)) (map start_pair (take l.start-index l.starts))
