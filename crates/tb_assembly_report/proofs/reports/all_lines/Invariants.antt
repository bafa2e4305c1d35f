-- What holds at each turn of the loop of `all_lines` in src/reports.rt.
use Rattle.std.proofs.Common.{◌≡◌, take, map}
use Rattle.tb_assembly_files.specs.Libraries.{source_of}
use Rattle.tb_assembly_report.specs.Reports.{all_lines, lines_of}
use Rattle.tb_assembly_report.proofs.reports.all_lines.Given as goal

abbrev pub invariant-loop-file : goal.invariant-loop-file
invariant-loop-file l = map lines_of l.all.items ≡ all_lines (map source_of (take l.file-index l.library))
