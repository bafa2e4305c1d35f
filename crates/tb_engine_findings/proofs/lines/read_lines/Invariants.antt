-- What holds at each turn of the loop of `read_lines` in src/lines.rt.
use Rattle.std.proofs.Common.{◌+◌, ◌≤◌, length}
use Rattle.tb_engine_findings.proofs.Read.{ReadTo}
use Rattle.tb_engine_findings.proofs.lines.read_lines.Given as goal

abbrev pub invariant-loop-text : goal.invariant-loop-text
invariant-loop-text l = record {
  so_far : ReadTo l.notation l.source l.lines l.number l.rest;
  count : l.number + length l.rest ≤ length l.source + 1;
}

abbrev pub decreases-loop-text : goal.decreases-loop-text
decreases-loop-text l = length l.rest
