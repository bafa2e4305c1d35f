-- Talks: a machine runs, waits, has a line typed to it, and runs on.
use Rattle.std.specs.Prelude.{ℕ, Bool, true, false, ◌++◌, ◌≡◌, ◌⊎◌, ◌+◌, ◌<◌, ◌≤◌, List, [], ◌∷◌, length, Option, Result, Ok, Err}
use Rattle.std.specs.Io.KnownBytes.{Appends, Keeps}
use Rattle.tb_kernal.specs.declared.outside.Quiet.{Quiet}
use Rattle.tb_kernal.specs.declared.events.Event.{Event}
use Rattle.tb_kernal.specs.declared.status.Status.{Status}
use Rattle.tb_kernal.specs.declared.status.Status.TheVariants.{Running, Waits, Returned, Wrong}
use Rattle.tb_kernal.specs.Machine.{Content, state_of}
use Rattle.tb_kernal.specs.Runs.{RanOver, is_quiet}
use Rattle.tb_kernal.specs.Sending.{KnowsLast, with_earlier}
use Rattle.tb_kernal.specs.Typing.{with_more}
use Rattle.tb_engine_streams.specs.HostForm.{host_form_of}
use Rattle.tb_engine_streams.specs.Streams.{AppendsPrefix}
use Rattle.tb_engine_streams.specs.Uses.{Use, Fails, NeverFails}
use Rattle.tb_engines.specs.Programs.{end_of}
use Rattle.tb_engines.specs.Outcomes.{Outcome}
use Rattle.tb_engines.specs.Writing.{kept_sent, sent_since}
use Rattle.tb_engine_streams.specs.declared.outcome.Outcome.TheVariants.{Ended, Refused, ReadFault, WriteFault, NoMemory}
use Rattle.tb_engine_streams.specs.Lines.{TakesLine, TakesPart, TakesNothing}
use Rattle.tb_engine_play.specs.Lines.{most_typed, keys_of, typed_of, TakesLines, TakesSome}

-- what the quiet outside gives
abbrev pub gives_quiet : Quiet → Content → Event → Quiet → Type 0
gives_quiet _ m e _ = is_quiet m e

-- at most `limit` quiet events lead from one machine to another, which has this status
abbrev pub Stretch : ℕ → Content → Status → Content → Type 0
Stretch limit m t n = (p : Quiet) × RanOver gives_quiet (record {}) m limit (Ok t) p n

-- lines are typed one after the other, each when the machine waits after a stretch
abbrev pub Talked : ℕ → Content → List (List ℕ) → Content → Type 0
Talked limit m [] n = n ≡ m
Talked limit m (line ∷ lines) n =
    (w : Content) × (typed : Content) × Stretch limit m Waits w × (state_of typed ≡ with_more (keys_of line) (state_of w))
    × Talked limit typed lines n

-- a talk after these lines: they were taken of the reader and typed, and all that was sent is written
pub record IsAfterLines (limit : ℕ) (m : Content) (lines : List (List ℕ)) (n : Content) (keys writer : Use) : Type 0 where
  pub talked : Talked limit m lines n
  pub taken : TakesLines keys.old lines keys.new
  pub written : Appends writer.old writer.new (host_form_of n.sent)

-- a talk and a stretch after it: these lines were taken of the reader, and nothing more
pub record Comes (limit : ℕ) (m : Content) (lines : List (List ℕ)) (t : Status) (n : Content) (had left : Option (List ℕ)) : Type 0 where
  pub typed : Content
  pub talked : Talked limit m lines typed
  pub stretch : Stretch limit typed t n
  pub taken : TakesLines had lines left

-- a machine that stops reads no more lines; if it waits, no line was left
abbrev pub Stops : Status → Option (List ℕ) → Option (List ℕ) → Type 0
Stops Running had left = left ≡ had
Stops Waits had left = TakesNothing had left
Stops Returned had left = left ≡ had
Stops (Wrong w) had left = left ≡ had

-- whether the machine waits for a key
abbrev pub is_waiting : Status → Bool
is_waiting Waits = true
is_waiting _ = false

-- What playing a machine came to: how it ended, all that was typed, and the uses of the keyboard's reader and of the
-- writer. A line is taken only when the machine waits.
abbrev pub Plays : ℕ → Content → Outcome → List ℕ → Use → Use → Type 0
Plays limit m (Ended end) typed keys writer =
    (lines : List (List ℕ)) × (t : Status) × (n : Content) × (mid : Option (List ℕ))
    × Comes limit m lines t n keys.old mid × Stops t mid keys.new
    × (typed ≡ typed_of lines) × (end ≡ end_of t n.regs.pc) × Appends writer.old writer.new (host_form_of n.sent)
Plays limit m (Refused e) typed keys writer = ⊥
Plays limit m ReadFault typed keys writer =
    (lines : List (List ℕ)) × (n : Content) × (mid : Option (List ℕ)) × (line : List ℕ)
    × Comes limit m lines Waits n keys.old mid × TakesPart mid line keys.new
    × (Fails keys ⊎ ((most_typed < length (typed_of lines) + length (keys_of line)) × TakesSome mid line keys.new))
    × Appends writer.old writer.new (host_form_of n.sent)
Plays limit m WriteFault typed keys writer =
    (lines : List (List ℕ)) × (t : Status) × (n : Content)
    × Comes limit m lines t n keys.old keys.new × AppendsPrefix writer.old writer.new (host_form_of n.sent)
Plays limit m NoMemory typed keys writer =
    ((lines : List (List ℕ)) × (n : Content) × IsAfterLines limit m lines n keys writer)
    ⊎ ((lines : List (List ℕ)) × (n : Content) × (mid : Option (List ℕ)) × (line : List ℕ)
    × Comes limit m lines Waits n keys.old mid × TakesPart mid line keys.new × Appends writer.old writer.new (host_form_of n.sent))

-- the machine that playing leaves, where it ended: what was typed leads to it, and as it stands, so playing ended
abbrev pub Leaves : ℕ → Content → Outcome → List ℕ → Content → Type 0
Leaves limit m (Ended end) typed n =
    (lines : List (List ℕ)) × (t : Status) × (had : Option (List ℕ)) × (left : Option (List ℕ))
    × Comes limit m lines t n had left × (typed ≡ typed_of lines) × (end ≡ end_of t n.regs.pc)
Leaves limit m (Refused e) typed n = ⊥
Leaves limit m ReadFault typed n = Unit {0}
Leaves limit m WriteFault typed n = Unit {0}
Leaves limit m NoMemory typed n = Unit {0}

-- the machine that playing leaves, where it may have forgotten the beginning of what it sent
abbrev pub LeavesRest : ℕ → Content → Outcome → List ℕ → Content → Type 0
LeavesRest limit m outcome typed n = (earlier : List ℕ) × KnowsLast kept_sent earlier n.sent × Leaves limit m outcome typed (with_earlier earlier n)

-- a text was written, and perhaps more after it
abbrev pub Writes : Use → List ℕ → Type 0
Writes writer text = (more : List ℕ) × Appends writer.old writer.new (text ++ more)

-- Written before the next line is read, however playing ended: nothing was taken of the reader, or some of a line last,
-- for which the machine waited after the lines before it; and all that the machine had sent by then is written.
abbrev pub WritesBeforeReading : ℕ → Content → Use → Use → Type 0
WritesBeforeReading limit m keys writer =
    (keys.new ≡ keys.old)
    ⊎ ((lines : List (List ℕ)) × (n : Content) × (mid : Option (List ℕ)) × (line : List ℕ)
    × Comes limit m lines Waits n keys.old mid × TakesPart mid line keys.new × Writes writer (host_form_of n.sent))

-- what running a stretch and writing what it sent answers, with the machine after it
abbrev pub GoesOn : ℕ → Content → Result Status Outcome → Content → Use → Type 0
GoesOn limit m (Ok t) n writer =
    Stretch limit m t n × Appends writer.old writer.new (host_form_of (sent_since m n)) × NeverFails writer
GoesOn limit m (Err WriteFault) n writer =
    (t : Status) × Stretch limit m t n × AppendsPrefix writer.old writer.new (host_form_of (sent_since m n)) × Fails writer
GoesOn limit m (Err NoMemory) n writer = Keeps writer.old writer.new × NeverFails writer
GoesOn limit m (Err (Ended end)) n writer = ⊥
GoesOn limit m (Err (Refused e)) n writer = ⊥
GoesOn limit m (Err ReadFault) n writer = ⊥

-- what running a stretch and writing what it sent answers, with the machine after it, which may forget the beginning
-- of what it sent, once that is written
abbrev pub Goes : ℕ → Content → Result Status Outcome → Content → Use → Type 0
Goes limit m result n writer = (earlier : List ℕ) × KnowsLast kept_sent earlier n.sent × GoesOn limit m result (with_earlier earlier n) writer

-- what reading a line and typing it answers: whether there was one; with the machine and the typed text before and
-- after
abbrev pub Hears : Content → List ℕ → Result Bool Outcome → Content → List ℕ → Use → Type 0
Hears m typed (Ok true) n typed' keys =
    (line : List ℕ) × TakesLine keys.old line keys.new × (state_of n ≡ with_more (keys_of line) (state_of m))
    × (typed' ≡ typed ++ keys_of line) × (length typed' ≤ most_typed) × NeverFails keys
Hears m typed (Ok false) n typed' keys =
    TakesNothing keys.old keys.new × (n ≡ m) × (typed' ≡ typed) × NeverFails keys
Hears m typed (Err ReadFault) n typed' keys =
    (line : List ℕ) × TakesPart keys.old line keys.new
    × (Fails keys ⊎ ((most_typed < length typed + length (keys_of line)) × TakesSome keys.old line keys.new)) × (typed' ≡ typed)
Hears m typed (Err NoMemory) n typed' keys =
    (line : List ℕ) × TakesPart keys.old line keys.new × (typed' ≡ typed) × NeverFails keys
Hears m typed (Err (Ended end)) n typed' keys = ⊥
Hears m typed (Err (Refused e)) n typed' keys = ⊥
Hears m typed (Err WriteFault) n typed' keys = ⊥
