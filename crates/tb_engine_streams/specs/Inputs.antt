-- What reading a whole input answers.
use Rattle.std.specs.Prelude.{ℕ, ◌≡◌, ◌≢◌, ◌⊎◌, ◌+◌, ◌≤◌, List, length, Option, None, Some, Result, Ok, Err}
use Rattle.std.specs.Io.KnownBytes.{Consumes}
use Rattle.std.specs.declared.alloc.Global.{Global}
use Rattle.std.specs.declared.vec.Vec.{Vec}
use Rattle.tb_engine_streams.specs.Streams.{ConsumesAtMost, MayPass, MayPassMost, Reads}
use Rattle.tb_engine_streams.specs.declared.stream.InputError.{InputError}
use Rattle.tb_engine_streams.specs.declared.stream.InputError.TheVariants.{Fault, NoMemory}

-- what reading up to `most` bytes answers, with the reader's count of failures: all that it gave, or that it gave more
abbrev pub ReadsUpTo : ℕ → Result (Option (Vec ℕ Global)) InputError → Option (List ℕ) → Option (List ℕ) → ℕ → ℕ → Type 0
ReadsUpTo most (Ok (Some input)) had left read read' =
    Reads had input.items × Consumes had left input.items × (length input.items ≤ most) × (read' ≡ read)
ReadsUpTo most (Ok None) had left read read' = MayPass most had × ConsumesAtMost had left (most + 1) × (read' ≡ read)
ReadsUpTo most (Err Fault) had left read read' = ConsumesAtMost had left (most + 1) × (read' ≢ read)
ReadsUpTo most (Err NoMemory) had left read read' = ConsumesAtMost had left (most + 1) × (read' ≡ read)

-- a fault comes only if the reader failed in this call, by its count of failures, or gave too many bytes
abbrev pub InputFaults : {V : Type 0} → Result V InputError → Option (List ℕ) → ℕ → ℕ → Type 0
InputFaults (Ok input) had old new = new ≡ old
InputFaults (Err Fault) had old new = (new ≢ old) ⊎ MayPassMost had
InputFaults (Err NoMemory) had old new = new ≡ old
