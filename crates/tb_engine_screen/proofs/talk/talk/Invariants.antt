-- What holds at each turn of the loop of `talk` in src/talk.rt.
use Rattle.std.proofs.Common.{◌≡◌, ◌≤◌, ◌+◌, ◌-◌, List, ℕ, vec_len}
use Rattle.tb_engine_streams.specs.Uses.{use_of}
use Rattle.tb_engine_play.specs.Lines.{most_typed, typed_of}
use Rattle.tb_engine_screen.specs.Talks.{IsAfterLines, WritesBeforeReading}
use Rattle.tb_engine_screen.proofs.talk.talk.Given as goal

abbrev pub invariant-talking : goal.invariant-talking
invariant-talking g l =
    (lines : List (List ℕ))
    × IsAfterLines l.limit l.initial.machine lines l.machine l.screen
    (g.R.Read.remaining l.initial.keys.stream) (g.R.Read.remaining l.keys.stream)
    (g.W.Write.contents l.initial.writer.stream) (g.W.Write.contents l.writer.stream)
    × WritesBeforeReading l.limit l.initial.machine
    (use_of g.R.Read.remaining l.initial.keys l.keys) (use_of g.W.Write.contents l.initial.writer l.writer)
    × (l.typed.items ≡ typed_of lines) × (vec_len l.typed ≤ most_typed)
    × (l.keys.failures ≡ l.initial.keys.failures) × (l.writer.failures ≡ l.initial.writer.failures)

abbrev pub decreases-talking : goal.decreases-talking
decreases-talking g l = most_typed + 1 - vec_len l.typed
