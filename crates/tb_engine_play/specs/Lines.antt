-- What lines of input hand to the keyboard.
use Rattle.std.specs.Prelude.{ℕ, ◌≡◌, ◌≢◌, ◌⊎◌, ◌<◌, ◌≤◌, List, [], ◌∷◌, ◌++◌, length, map, flat_map, Option, Some, None, Result, Ok, Err}
use Rattle.std.specs.Io.KnownBytes.{Consumes}
use Rattle.std.specs.Char.{to_ascii_uppercase}
use Rattle.std.specs.declared.alloc.Global.{Global}
use Rattle.std.specs.declared.vec.Vec.{Vec}
pub use Rattle.tb_opcodes.specs.Bytes.{AreBytes}
use Rattle.tb_engine_streams.specs.Streams.{most_input}
use Rattle.tb_engine_streams.specs.Lines.{without_return, TakesLine, TakesNothing, TakesPart}
use Rattle.tb_engine_streams.specs.declared.stream.InputError.{InputError}
use Rattle.tb_engine_streams.specs.declared.stream.InputError.TheVariants.{Fault, NoMemory}

-- the most bytes that are handed to the keyboard in all
abbrev pub most_typed : ℕ
most_typed = most_input

-- what a typed text gives the keyboard: its letters as capitals, and a return
abbrev pub keys_of_text : List ℕ → List ℕ
keys_of_text text = map to_ascii_uppercase text ++ 13 ∷ []

-- what a line of input hands over
abbrev pub keys_of : List ℕ → List ℕ
keys_of line = keys_of_text (without_return line)

-- what lines hand over, the first line first
abbrev pub typed_of : List (List ℕ) → List ℕ
typed_of lines = flat_map keys_of lines

-- these lines are taken of a reader, one after the other
abbrev pub TakesLines : Option (List ℕ) → List (List ℕ) → Option (List ℕ) → Type 0
TakesLines had [] left = left ≡ had
TakesLines had (line ∷ lines) left = (mid : Option (List ℕ)) × TakesLine had line mid × TakesLines mid lines left

-- a byte of a line was taken, or the 10 at its end
abbrev pub TakesSome : Option (List ℕ) → List ℕ → Option (List ℕ) → Type 0
TakesSome had line left = (0 < length line) ⊎ Consumes had left (line ++ 10 ∷ [])

-- what reading the keys of a line answers, if there is room for n bytes
abbrev pub ReadsKeys : Result (Option (Vec ℕ Global)) InputError → ℕ → Option (List ℕ) → Option (List ℕ) → ℕ → ℕ → Type 0
ReadsKeys (Ok None) room had left read read' = TakesNothing had left × (read' ≡ read)
ReadsKeys (Ok (Some keys)) room had left read read' =
    (line : List ℕ) × TakesLine had line left × (keys.items ≡ keys_of line) × (length keys.items ≤ room) × (read' ≡ read)
ReadsKeys (Err Fault) room had left read read' =
    (line : List ℕ) × TakesPart had line left × ((read' ≢ read) ⊎ ((room < length (keys_of line)) × TakesSome had line left))
ReadsKeys (Err NoMemory) room had left read read' = (line : List ℕ) × TakesPart had line left × (read' ≡ read)
