-- What holds at each turn of the loop of `pass_bytes` in src/reading.rt.
use Rattle.std.proofs.Common.{◌≡◌, ◌+◌, ℕ, List, length}
use Rattle.std.specs.Io.KnownBytes.{Consumes}
use Rattle.tb_editor_frames.proofs.reading.pass_bytes.Given as goal

abbrev pub invariant-passing : goal.invariant-passing
invariant-passing g l =
    (bytes : List ℕ) × Consumes (g.R.Read.remaining l.initial.reader.stream) (g.R.Read.remaining l.reader.stream) bytes
    × (length bytes + l.left ≡ l.length) × (l.reader.failures ≡ l.initial.reader.failures)

abbrev pub decreases-passing : goal.decreases-passing
decreases-passing g l = l.left
