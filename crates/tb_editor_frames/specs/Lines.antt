-- Lines of a header, taken from a reader.
use Rattle.std.specs.Prelude.{ℕ, ◌≡◌, ◌≢◌, ◌⊎◌, ◌≤◌, ◌<◌, List, [], ◌∷◌, ◌++◌, length, Option, Some, None, Result, Ok, Err}
use Rattle.std.specs.Io.KnownBytes.{Consumes, IsAtEnd}
use Rattle.std.specs.declared.alloc.Global.{Global}
use Rattle.std.specs.declared.vec.Vec.{Vec}
use Rattle.tb_engine_streams.specs.Lines.{IsLine, TakesNothing}
use Rattle.tb_editor_frames.specs.Numbers.{MOST_LINE}
use Rattle.tb_editor_frames.specs.declared.reading.FrameError.{FrameError}
use Rattle.tb_editor_frames.specs.declared.reading.FrameError.TheVariants.{Fault, Bad, NoMemory}

-- a line was taken, and the 10 of its end, and nothing after it
abbrev pub TakesWhole : Option (List ℕ) → List ℕ → Option (List ℕ) → Type 0
TakesWhole had line left = IsLine line × Consumes had left (line ++ 10 ∷ []) × (length line ≤ MOST_LINE)

-- what was taken begins no line: it is too long, or the input ended within it
abbrev pub TakesNoLine : Option (List ℕ) → Option (List ℕ) → Type 0
TakesNoLine had left =
    (part : List ℕ) × IsLine part × Consumes had left part × ((MOST_LINE < length part) ⊎ ((0 < length part) × IsAtEnd left))

-- what reading a line answers, with the reader's count of failures
abbrev pub ReadsLine : Result (Option (Vec ℕ Global)) FrameError → Option (List ℕ) → Option (List ℕ) → ℕ → ℕ → Type 0
ReadsLine (Ok None) had left read read' = TakesNothing had left × (read' ≡ read)
ReadsLine (Ok (Some line)) had left read read' = TakesWhole had line.items left × (read' ≡ read)
ReadsLine (Err Fault) had left read read' = read' ≢ read
ReadsLine (Err Bad) had left read read' = TakesNoLine had left × (read' ≡ read)
ReadsLine (Err NoMemory) had left read read' = read' ≡ read
