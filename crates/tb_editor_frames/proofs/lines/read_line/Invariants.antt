-- What holds at each turn of the loop of `read_line` in src/lines.rt.
use Rattle.std.proofs.Common.{◌≡◌, ◌≤◌, ◌-◌, vec_len}
use Rattle.std.specs.Io.KnownBytes.{Consumes}
use Rattle.tb_engine_streams.specs.Lines.{IsLine}
use Rattle.tb_editor_frames.proofs.lines.read_line.Given as goal

abbrev pub invariant-reading : goal.invariant-reading
invariant-reading g l = record {
  taken : Consumes (g.R.Read.remaining l.initial.reader.stream) (g.R.Read.remaining l.reader.stream) l.line.items;
  is_line : IsLine l.line.items;
  within : vec_len l.line ≤ 257;
  sound : l.reader.failures ≡ l.initial.reader.failures;
}

abbrev pub decreases-reading : goal.decreases-reading
decreases-reading g l = 257 - vec_len l.line
