-- What holds at each turn of the loop of `read_header` in src/reading.rt.
use Rattle.std.proofs.Common.{◌≡◌}
use Rattle.tb_editor_frames.proofs.Taken.{Stands}
use Rattle.tb_editor_frames.proofs.reading.read_header.Given as goal

abbrev pub invariant-loop-count : goal.invariant-loop-count
invariant-loop-count g l =
    Stands (g.R.Read.remaining l.initial.reader.stream) (g.R.Read.remaining l.reader.stream) l.count l.found
    × (l.reader.failures ≡ l.initial.reader.failures)
