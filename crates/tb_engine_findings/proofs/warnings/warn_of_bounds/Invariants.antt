-- What holds at each turn of the loop of `warn_of_bounds` in src/warnings.rt.
use Rattle.std.proofs.Common.{◌≡◌, ◌++◌, drop, take}
use Rattle.tb_engine_findings.specs.Warnings.{at, on_bounds, on_bounds_after}
use Rattle.tb_engine_findings.proofs.warnings.warn_of_bounds.Given as goal

abbrev pub invariant-loop-i : goal.invariant-loop-i
invariant-loop-i l =
    l.found.items ++ at l.line (on_bounds_after (take l.i l.bounds) (drop l.i l.bounds)) ≡ l.initial.found.items ++ at l.line (on_bounds l.bounds)
