-- What holds at each turn of the loop of `warn_of_text` in src/warnings.rt.
use Rattle.std.proofs.Common.{◌≡◌, ◌++◌, drop}
use Rattle.std.specs.Prelude.{flat_map}
use Rattle.tb_engine_findings.specs.Warnings.{at, on_byte}
use Rattle.tb_engine_findings.proofs.warnings.warn_of_text.Given as goal

abbrev pub invariant-loop-byte : goal.invariant-loop-byte
invariant-loop-byte l =
    l.found.items ++ at l.line (flat_map on_byte (drop l.byte-index l.text)) ≡ l.initial.found.items ++ at l.line (flat_map on_byte l.text)
