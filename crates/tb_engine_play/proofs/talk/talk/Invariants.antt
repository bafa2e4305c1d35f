-- What holds at each turn of the loop of `talk` in src/talk.rt.
use Rattle.std.proofs.Common.{◌≡◌, ◌≤◌, ◌+◌, ◌-◌, List, ℕ, vec_len}
use Rattle.tb_kernal.specs.Sending.{KnowsLast, with_earlier}
use Rattle.tb_engine_streams.specs.Uses.{use_of}
use Rattle.tb_engines.specs.Writing.{kept_sent}
use Rattle.tb_engine_play.specs.Lines.{most_typed, typed_of}
use Rattle.tb_engine_play.specs.Talks.{IsAfterLines, WritesBeforeReading}
use Rattle.tb_engine_play.proofs.talk.talk.Given as goal

abbrev pub invariant-talking : goal.invariant-talking
invariant-talking g l =
    (earlier : List ℕ) × (lines : List (List ℕ)) × KnowsLast kept_sent earlier l.machine.sent
    × IsAfterLines l.limit l.initial.machine lines (with_earlier earlier l.machine)
    (use_of g.R.Read.remaining l.initial.keys l.keys) (use_of g.W.Write.contents l.initial.writer l.writer)
    × WritesBeforeReading l.limit l.initial.machine
    (use_of g.R.Read.remaining l.initial.keys l.keys) (use_of g.W.Write.contents l.initial.writer l.writer)
    × (l.typed.items ≡ typed_of lines) × (vec_len l.typed ≤ most_typed)
    × (l.keys.failures ≡ l.initial.keys.failures) × (l.writer.failures ≡ l.initial.writer.failures)

abbrev pub decreases-talking : goal.decreases-talking
decreases-talking g l = most_typed + 1 - vec_len l.typed
