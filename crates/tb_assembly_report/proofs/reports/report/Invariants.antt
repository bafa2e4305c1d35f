-- What holds at each turn of the loop of `report` in src/reports.rt.
use Rattle.std.proofs.Common.{◌≡◌, ◌++◌, drop, map}
use Rattle.tb_assembly_files.specs.Libraries.{source_of}
use Rattle.tb_assembly_report.specs.Reports.{rows_from}
use Rattle.tb_assembly_report.proofs.reports.report.Given as goal

abbrev pub invariant-loop-i : goal.invariant-loop-i
invariant-loop-i l =
    l.text.items ++ rows_from l.i (map source_of l.library) (map (λ n. n.now) l.names) (drop l.i l.findings)
    ≡ rows_from 0 (map source_of l.library) (map (λ n. n.now) l.names) l.findings
