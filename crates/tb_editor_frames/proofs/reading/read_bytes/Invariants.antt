-- What holds at each turn of the loop of `read_bytes` in src/reading.rt.
use Rattle.std.proofs.Common.{◌≡◌, ◌≤◌, ◌-◌, vec_len}
use Rattle.std.specs.Io.KnownBytes.{Consumes}
use Rattle.tb_editor_frames.proofs.reading.read_bytes.Given as goal

abbrev pub invariant-reading : goal.invariant-reading
invariant-reading g l = record {
  taken : Consumes (g.R.Read.remaining l.initial.reader.stream) (g.R.Read.remaining l.reader.stream) l.content.items;
  within : vec_len l.content ≤ l.length;
  sound : l.reader.failures ≡ l.initial.reader.failures;
}

abbrev pub decreases-reading : goal.decreases-reading
decreases-reading g l = l.length - vec_len l.content
