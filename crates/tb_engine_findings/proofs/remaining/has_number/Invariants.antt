-- What holds at each turn of the loop of `has_number` in src/remaining.rt.
use Rattle.std.proofs.Common.{◌≡◌, drop, map}
use Rattle.tb_engine_findings.specs.Entries.{is_one_of}
use Rattle.tb_engine_findings.proofs.remaining.has_number.Given as goal

abbrev pub invariant-loop-line : goal.invariant-loop-line
invariant-loop-line l = is_one_of l.number (map (λ m. m.number) (drop l.line-index l.lines)) ≡ is_one_of l.number (map (λ m. m.number) l.lines)
