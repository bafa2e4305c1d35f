-- What holds at each turn of the loop of `remaining_lines` in src/remaining.rt.
use Rattle.std.proofs.Common.{◌≡◌, ◌++◌, drop}
use Rattle.tb_engine_findings.specs.Remaining.{remaining}
use Rattle.tb_engine_findings.proofs.remaining.remaining_lines.Given as goal

abbrev pub invariant-loop-i : goal.invariant-loop-i
invariant-loop-i l = l.found.items ++ remaining l.numbers (drop l.i l.lines) ≡ remaining l.numbers l.lines
