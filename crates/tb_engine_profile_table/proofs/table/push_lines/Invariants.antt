-- What holds at each turn of the loop of `push_lines` in src/table.rt.
use Rattle.std.proofs.Common.{◌≡◌, ◌++◌, map, take}
use Rattle.std.specs.Prelude.{flat_map}
use Rattle.tb_engine_profile_table.specs.Table.{line_text}
use Rattle.tb_engine_profile_table.specs.Lines.{line_pair}
use Rattle.tb_engine_profile_table.proofs.table.push_lines.Given as goal

abbrev pub invariant-loop-line : goal.invariant-loop-line
invariant-loop-line l = l.text.items ≡ l.initial.text.items ++ flat_map (line_text l.all) (map line_pair (take l.line-index l.lines))
