-- What holds at each turn of the loop of `lines_of_text` in src/reports.rt.
use Rattle.std.proofs.Common.{◌≡◌, ◌++◌, length, map}
use Rattle.tb_basic_text.specs.Lines.{lines_of_file}
use Rattle.tb_assembly_report.proofs.reports.lines_of_text.Given as goal

abbrev pub invariant-loop-line : goal.invariant-loop-line
invariant-loop-line l = map (λ t. t.now) l.lines.items ++ lines_of_file l.rest ≡ lines_of_file l.text

abbrev pub decreases-loop-line : goal.decreases-loop-line
decreases-loop-line l = length l.rest
