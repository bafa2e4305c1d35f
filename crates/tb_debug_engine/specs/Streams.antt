-- What a dialogue reads and writes.
use Rattle.std.specs.Prelude.{ℕ, ◌≡◌, ◌≢◌, ◌⊎◌, ◌<◌, List, length, Option}
use Rattle.std.specs.Io.KnownBytes.{Appends, Keeps}
use Rattle.tb_engine_streams.specs.Failures.{failures_of}
use Rattle.tb_engine_streams.specs.Lines as lines
use Rattle.tb_engine_streams.specs.Streams.{AppendsPrefix, most_input}
use Rattle.tb_engine_streams.specs.declared.tracked.Tracked.{Tracked}

-- a reader or a writer: what is left of its bytes or was written to it, if it tells that, and how many of its calls failed
pub record Stream : Type 0 where
  pub bytes : Option (List ℕ)
  pub failures : ℕ

-- the reader of commands and the writer of their answers
pub record Streams : Type 0 where
  pub commands : Stream
  pub answers : Stream

-- a reader or a writer as a stream whose bytes are these
abbrev pub stream_of : {T : Type 0} → (T → Option (List ℕ)) → Tracked T → Stream
stream_of bytes t = record { bytes = bytes t.stream; failures = failures_of t }

-- a reader and a writer
abbrev pub streams_of : {R W : Type 0} → (R → Option (List ℕ)) → Tracked R → (W → Option (List ℕ)) → Tracked W → Streams
streams_of remaining commands contents answers = record { commands = stream_of remaining commands; answers = stream_of contents answers }

-- ---- reading

-- a line was taken, and nothing after it
abbrev pub Takes : List ℕ → Stream → Stream → Type 0
Takes line old new = lines.TakesLine old.bytes line new.bytes × (new.failures ≡ old.failures)

-- nothing was left to be taken
abbrev pub TakesNone : Stream → Stream → Type 0
TakesNone old new = lines.TakesNothing old.bytes new.bytes × (new.failures ≡ old.failures)

-- some of a line was taken, or all of it, and nothing after it
abbrev pub TakesSome : Stream → Stream → Type 0
TakesSome old new = (line : List ℕ) × lines.TakesPart old.bytes line new.bytes × (new.failures ≡ old.failures)

-- some of a line was taken, or all of it, and nothing after it, as the reader failed or the line was too long
abbrev pub FailsToTake : Stream → Stream → Type 0
FailsToTake old new =
    (line : List ℕ) × lines.TakesPart old.bytes line new.bytes × ((new.failures ≢ old.failures) ⊎ (most_input < length line))

-- ---- writing

-- a text was written
abbrev pub Writes : List ℕ → Stream → Stream → Type 0
Writes text old new = Appends old.bytes new.bytes text × (new.failures ≡ old.failures)

-- nothing was written
abbrev pub WritesNone : Stream → Stream → Type 0
WritesNone old new = Keeps old.bytes new.bytes × (new.failures ≡ old.failures)

-- a prefix of a text was written, and the writer failed
abbrev pub FailsToWrite : List ℕ → Stream → Stream → Type 0
FailsToWrite text old new = AppendsPrefix old.bytes new.bytes text × (new.failures ≢ old.failures)
