-- What holds at each turn of the loop of `read_below` in src/reading.rt.
use Rattle.std.proofs.Common.{◌≡◌, ◌≤◌, ◌+◌, length}
use Rattle.tb_basic_text.specs.Lines.{lines_of_file}
use Rattle.tb_engine_transcripts.specs.Reading.{begun, below, state_of}
use Rattle.tb_engine_transcripts.proofs.reading.read_below.Given as goal

abbrev pub invariant-loop-line : goal.invariant-loop-line
invariant-loop-line l = record {
  same : below l.number (state_of l.reading) (lines_of_file l.rest) ≡ below l.initial.number begun (lines_of_file l.text);
  few : l.number + length l.rest ≤ l.initial.number + length l.text;
}

abbrev pub decreases-loop-line : goal.decreases-loop-line
decreases-loop-line l = length l.rest
