-- What holds at each turn of the loop of `bad_findings` in src/findings.rt.
use Rattle.std.proofs.Common.{◌≡◌, take, map}
use Rattle.tb_assembly_output.specs.Findings.{bad_finding}
use Rattle.tb_assembly_output.proofs.findings.bad_findings.Given as goal

abbrev pub invariant-loop-line : goal.invariant-loop-line
invariant-loop-line l = l.findings.items ≡ map bad_finding (take l.line-index l.bad)
