-- What holds at each turn of the loop of `read_header` in src/header.rt.
use Rattle.std.proofs.Common.{◌≡◌, ◌≤◌, ◌+◌, length}
use Rattle.tb_basic_text.specs.Lines.{lines_of_file}
use Rattle.tb_engine_transcripts.specs.Header.{header, nothing}
use Rattle.tb_engine_transcripts.proofs.header.read_header.Given as goal

abbrev pub invariant-loop-line : goal.invariant-loop-line
invariant-loop-line l = record {
  same : header l.number l.header (lines_of_file l.rest) ≡ header 1 nothing (lines_of_file l.text);
  few : l.number + length l.rest ≤ length l.text + 1;
}

abbrev pub decreases-loop-line : goal.decreases-loop-line
decreases-loop-line l = length l.rest
