-- What holds at each turn of the loop of `write_shown` in src/screen.rt.
use Rattle.std.proofs.Common.{◌≡◌, ℕ, length, take, drop}
use Rattle.std.specs.Io.KnownBytes.{Appends}
use Rattle.tb_engine_streams.specs.HostForm.{shown_as}
use Rattle.tb_engine_streams.proofs.screen.write_shown.Given as goal

abbrev pub invariant-showing : goal.invariant-showing
invariant-showing g l =
    (n : ℕ) × (l.rest ≡ drop n l.sent)
    × Appends (g.W.Write.contents l.initial.writer.stream) (g.W.Write.contents l.writer.stream) (shown_as l.notation (take n l.sent))
    × (l.writer.failures ≡ l.initial.writer.failures)

abbrev pub decreases-showing : goal.decreases-showing
decreases-showing g l = length l.rest
