-- What holds at each turn of the loop of `code_of` in src/surroundings.rt.
use Rattle.std.proofs.Common.{◌≡◌, ◌++◌, drop, false}
use Rattle.tb_engine_findings.specs.Surroundings.{code_of}
use Rattle.tb_engine_findings.proofs.surroundings.code_of.Given as goal

abbrev pub invariant-loop-byte : goal.invariant-loop-byte
invariant-loop-byte l = l.code.items ++ code_of l.is_text (drop l.byte-index l.text) ≡ code_of false l.text
