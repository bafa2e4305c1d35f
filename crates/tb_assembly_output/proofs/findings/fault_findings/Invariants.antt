-- What holds at each turn of the loop of `fault_findings` in src/findings.rt.
use Rattle.std.proofs.Common.{◌≡◌, take, map}
use Rattle.tb_assembly_output.specs.Findings.{fault_finding}
use Rattle.tb_assembly_output.proofs.findings.fault_findings.Given as goal

abbrev pub invariant-loop-fault : goal.invariant-loop-fault
invariant-loop-fault l = l.findings.items ≡ map (fault_finding l.places) (take l.fault-index l.faults)
