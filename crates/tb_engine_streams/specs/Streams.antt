-- What an engine says of the reader that it read and of the writer that it wrote.
use Rattle.tb_engine_streams.specs.Numbers.{MOST_INPUT}
use Rattle.std.specs.Prelude.{ℕ, Bool, ◌≡◌, ◌≤◌, ◌<◌, ◌+◌, ◌%◌, ◌^◌, List, take, length, ⊤, Option, None, Some, if◌then◌else◌}
use Rattle.std.specs.Io.KnownBytes.{Appends, Consumes}

-- the most bytes that an engine takes from a reader
abbrev pub most_input : ℕ
most_input = MOST_INPUT

-- the count of failures after a call that may have failed
abbrev pub counted : ℕ → Bool → ℕ
counted failures has_failed = if has_failed then (failures + 1) % 2 ^ 64 else failures

-- the reader gave more than the given number of bytes, as far as is known
abbrev pub MayPass : ℕ → Option (List ℕ) → Type 0
MayPass most None = ⊤
MayPass most (Some xs) = most < length xs

-- the reader gave more than an engine takes, as far as is known
abbrev pub MayPassMost : Option (List ℕ) → Type 0
MayPassMost had = MayPass most_input had

-- the bytes that were read are all that the reader had, if it tells them
abbrev pub Reads : Option (List ℕ) → List ℕ → Type 0
Reads None bytes = ⊤
Reads (Some xs) bytes = bytes ≡ xs

-- some bytes were taken, of which there are at most n
abbrev pub ConsumesAtMost : Option (List ℕ) → Option (List ℕ) → ℕ → Type 0
ConsumesAtMost old new n = (bs : List ℕ) × Consumes old new bs × (length bs ≤ n)

-- a prefix of the text was written
abbrev pub AppendsPrefix : Option (List ℕ) → Option (List ℕ) → List ℕ → Type 0
AppendsPrefix old new text = (n : ℕ) × Appends old new (take n text)
