-- What holds at each turn of the loop of `is_open` in src/notes.rt.
use Rattle.std.proofs.Common.{◌≡◌, drop, if◌then◌else◌}
use Rattle.std.specs.Prelude.{not}
use Rattle.tb_engine_findings.specs.Notes.{is_open}
use Rattle.tb_engine_findings.proofs.notes.is_open.Given as goal

abbrev pub invariant-loop-byte : goal.invariant-loop-byte
invariant-loop-byte l = (if l.is_open then not (is_open (drop l.byte-index l.line)) else is_open (drop l.byte-index l.line)) ≡ is_open l.line
