-- What holds at each turn of the loop of `write_output` in src/stream.rt.
use Rattle.std.proofs.Common.{◌≡◌, ℕ, length, take, drop}
use Rattle.std.specs.Io.KnownBytes.{Appends}
use Rattle.tb_engine_streams.proofs.stream.write_output.Given as goal

abbrev pub invariant-writing : goal.invariant-writing
invariant-writing g l =
    (n : ℕ) × (l.rest ≡ drop n l.text)
    × Appends (g.W.Write.contents l.initial.writer.stream) (g.W.Write.contents l.writer.stream) (take n l.text)
    × (l.writer.failures ≡ l.initial.writer.failures)

abbrev pub decreases-writing : goal.decreases-writing
decreases-writing g l = length l.rest
