-- What was sent before, which a run does not depend on.
use Rattle.std.specs.Prelude.{ℕ, ◌≡◌, ◌⊎◌, ◌-◌, ◌≤◌, List, [], ◌++◌, drop, length}
use Rattle.tb_kernal.specs.declared.events.Event.{Event}
use Rattle.tb_kernal.specs.Machine.{State, Content}
use Rattle.tb_kernal.specs.Runs.{run, all_lawful}

-- a state that had sent these bytes before all that it has sent
abbrev pub sent_before : List ℕ → State → State
sent_before earlier s = record s { sent = earlier ++ s.sent }

-- a machine that had sent these bytes before all that it has sent
abbrev pub with_earlier : List ℕ → Content → Content
with_earlier earlier m = record m { sent = earlier ++ m.sent }

-- the last bytes of a list, at most so many
abbrev pub last_of : ℕ → List ℕ → List ℕ
last_of most bytes = drop (length bytes - most) bytes

-- of what was sent, all is there, or at least so many of the last bytes
abbrev pub KnowsLast : ℕ → List ℕ → List ℕ → Type 0
KnowsLast least earlier sent = (earlier ≡ []) ⊎ (least ≤ length sent)

-- a run is the same whatever was sent before it, and its events are as lawful
abbrev pub SendingKeepsRuns : Type 0
SendingKeepsRuns =
    (es : List Event) (s : State) (earlier : List ℕ) →
    (run es (sent_before earlier s) ≡ sent_before earlier (run es s)) × (all_lawful es (sent_before earlier s) ≡ all_lawful es s)
