-- What holds at each turn of the loop of `push_warnings` in src/reports.rt.
use Rattle.std.proofs.Common.{◌≡◌, ◌++◌, take}
use Rattle.std.specs.Prelude.{flat_map}
use Rattle.tb_engine_check.specs.Reports.{warning_rows, lines_in}
use Rattle.tb_engine_check.proofs.reports.push_warnings.Given as goal

abbrev pub invariant-loop-warning : goal.invariant-loop-warning
invariant-loop-warning l = l.text.items ≡ l.initial.text.items ++ flat_map (warning_rows l.source.name.now (lines_in l.source)) (take l.warning-index l.warnings)
