-- What holds at each turn of the loop of `push_deep_lines` in src/reports.rt.
use Rattle.std.proofs.Common.{◌≡◌, ◌++◌, take}
use Rattle.std.specs.Prelude.{flat_map}
use Rattle.tb_engine_check.specs.Reports.{deep_rows, lines_in}
use Rattle.tb_engine_check.proofs.reports.push_deep_lines.Given as goal

abbrev pub invariant-loop-line : goal.invariant-loop-line
invariant-loop-line l = l.text.items ≡ l.initial.text.items ++ flat_map (deep_rows l.source.name.now (lines_in l.source)) (take l.line-index l.lines)
