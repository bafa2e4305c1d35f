-- What a call did with a stream.
use Rattle.std.specs.Prelude.{ℕ, ◌≡◌, ◌≢◌, ◌⊎◌, ◌+◌, List, Option}
use Rattle.tb_engine_streams.specs.Failures.{failures_of}
use Rattle.tb_engine_streams.specs.Streams.{most_input, ConsumesAtMost, MayPassMost}
use Rattle.tb_engine_streams.specs.declared.tracked.Tracked.{Tracked}

-- a stream before and after a call: what a reader still has or a writer has got, if that is known, and the count of
-- failures
pub record Use : Type 0 where
  pub old : Option (List ℕ)
  pub new : Option (List ℕ)
  pub old_failures : ℕ
  pub new_failures : ℕ

-- the use of a stream, by what it tells of its bytes: `R.remaining` of a reader, `W.contents` of a writer
abbrev pub use_of : {T : Type 0} → (T → Option (List ℕ)) → Tracked T → Tracked T → Use
use_of tells old new =
    record {
      old = tells old.stream;
      new = tells new.stream;
      old_failures = failures_of old;
      new_failures = failures_of new;
    }

-- the stream failed
abbrev pub Fails : Use → Type 0
Fails u = u.new_failures ≢ u.old_failures

-- it never failed
abbrev pub NeverFails : Use → Type 0
NeverFails u = u.new_failures ≡ u.old_failures

-- a reader failed, or gave too many bytes
abbrev pub MayFault : Use → Type 0
MayFault u = Fails u ⊎ MayPassMost u.old

-- an engine took no more bytes from a reader than one that tells a longest input from one that is too long
abbrev pub TakesInput : Use → Type 0
TakesInput u = ConsumesAtMost u.old u.new (most_input + 1)
