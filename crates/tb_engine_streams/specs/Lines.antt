-- Lines that are read one by one.
use Rattle.std.specs.Prelude.{ℕ, ◌≡◌, ◌≢◌, ◌⊎◌, ◌-◌, ◌<◌, ◌≤◌, ◌==◌, List, [], ◌∷◌, ◌++◌, length, take}
use Rattle.std.specs.Prelude.{slice_index, Option, Some, None, Result, Ok, Err, if◌then◌else◌}
use Rattle.std.specs.Io.KnownBytes.{Consumes, IsAtEnd}
use Rattle.std.specs.declared.alloc.Global.{Global}
use Rattle.std.specs.declared.vec.Vec.{Vec}
use Rattle.tb_engine_streams.specs.declared.stream.InputError.{InputError}
use Rattle.tb_engine_streams.specs.declared.stream.InputError.TheVariants.{Fault, NoMemory}

-- a line without a 13 at its end
abbrev pub without_return : List ℕ → List ℕ
without_return line = if slice_index line (length line - 1) == 13 then take (length line - 1) line else line

-- each is a byte other than 10
abbrev pub IsLine : List ℕ → Type 0
IsLine [] = Unit {0}
IsLine (b ∷ bs) = (b < 256) × (b ≢ 10) × IsLine bs

-- a line was taken from a reader, and nothing after it: with the 10 of its end, or all that was left, at least one byte
abbrev pub TakesLine : Option (List ℕ) → List ℕ → Option (List ℕ) → Type 0
TakesLine had line left =
    IsLine line × (Consumes had left (line ++ 10 ∷ []) ⊎ ((0 < length line) × Consumes had left line × IsAtEnd left))

-- some of a line was taken, or all of it, and nothing after it
abbrev pub TakesPart : Option (List ℕ) → List ℕ → Option (List ℕ) → Type 0
TakesPart had line left = IsLine line × (Consumes had left line ⊎ Consumes had left (line ++ 10 ∷ []))

-- nothing was left to be taken
abbrev pub TakesNothing : Option (List ℕ) → Option (List ℕ) → Type 0
TakesNothing had left = Consumes had left [] × IsAtEnd left

-- what reading a line of at most `most` bytes answers: the count of failures is kept, except at the reader's fault
abbrev pub ReadsLine : Result (Option (Vec ℕ Global)) InputError → ℕ → Option (List ℕ) → Option (List ℕ) → ℕ → ℕ → Type 0
ReadsLine (Ok None) most had left read read' = TakesNothing had left × (read' ≡ read)
ReadsLine (Ok (Some line)) most had left read read' = TakesLine had line.items left × (length line.items ≤ most) × (read' ≡ read)
ReadsLine (Err Fault) most had left read read' =
    (line : List ℕ) × TakesPart had line left × ((read' ≢ read) ⊎ (most < length line))
ReadsLine (Err NoMemory) most had left read read' = (line : List ℕ) × TakesPart had line left × (read' ≡ read)
