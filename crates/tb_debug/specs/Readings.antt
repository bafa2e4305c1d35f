-- What a machine's memory holds.
use Rattle.std.specs.Prelude.{◌≡◌, ℕ, zero, suc, ◌+◌, ◌-◌, ◌%◌, min, List, [], ◌∷◌, ◌++◌, Option, Some, None, Result, Ok, Err}
use Rattle.tb_memmap.specs.Bytes.{peek}
use Rattle.tb_memmap.specs.declared.memory.Closed.{Closed}
use Rattle.tb_cpu.specs.Operands.{word_in}
use Rattle.tb_basic_meaning.specs.Control.{deepest}
use Rattle.tb_debug_inspection.specs.Readings.{return_in}
use Rattle.tb_asm.specs.Layout.{Entry, size_of}
use Rattle.tb_disasm.specs.declared.listing.Line.{Line}
use Rattle.tb_disasm.specs.Lines.{shown}
use Rattle.tb_disasm.specs.Listing.{line_at as code_line}
use Rattle.tb_debug.specs.Lines.{line_at}
use Rattle.tb_compiled_kept.specs.Addresses.{NOTES}

-- how many returns are told: as many as the return list holds, and no more than it may hold
abbrev pub depth_in : (ℕ → ℕ) → ℕ
depth_in m = min (word_in m NOTES) deepest

-- the lines of the first n returns, the newest first
abbrev pub lines_of_returns : List (ℕ × ℕ) → (ℕ → ℕ) → ℕ → List (Option ℕ)
lines_of_returns lines m zero = []
lines_of_returns lines m (suc k) = line_at lines (return_in m k) ∷ lines_of_returns lines m k

-- the lines to return to, the newest first; none for a return past the last line
abbrev pub returns_of : List (ℕ × ℕ) → (ℕ → ℕ) → List (Option ℕ)
returns_of lines m = lines_of_returns lines m (depth_in m)

-- ---- bytes and code

-- what a read gives; none if it is refused
abbrev pub as_read : Result ℕ Closed → Option ℕ
as_read (Ok byte) = Some byte
as_read (Err closed) = None

-- n bytes from an address on; none for a closed address
abbrev pub bytes_from : (ℕ → ℕ) → ℕ → ℕ → List (Option ℕ)
bytes_from m a zero = []
bytes_from m a (suc n) = bytes_from m a n ++ as_read (peek m (a + n)) ∷ []

-- as many bytes from an address on, but none behind the last address; none for a closed address
abbrev pub bytes_of : (ℕ → ℕ) → ℕ → ℕ → List (Option ℕ)
bytes_of m a count = bytes_from m a (min count (65536 - a))

-- the bytes of which an instruction may be read, up to a closed address
abbrev pub up_to_closed : Result ℕ Closed → Result ℕ Closed → Result ℕ Closed → List ℕ
up_to_closed (Ok first) (Ok second) (Ok third) = first ∷ second ∷ third ∷ []
up_to_closed (Ok first) (Ok second) (Err closed) = first ∷ second ∷ []
up_to_closed (Ok first) (Err closed) third = first ∷ []
up_to_closed (Err closed) second third = []

-- those at an address
abbrev pub code_bytes : (ℕ → ℕ) → ℕ → List ℕ
code_bytes m a = up_to_closed (peek m a) (peek m ((a + 1) % 65536)) (peek m ((a + 2) % 65536))

-- how many lines of code are shown
abbrev pub most_code : ℕ
most_code = 8

-- how many bytes a line of code takes, 3 at most
abbrev pub code_size : ℕ → List ℕ → ℕ
code_size a bytes = min (size_of (code_line a bytes).1) 3

-- the line of code of these bytes at an address, before other lines; of no bytes none
abbrev pub code_behind : List ℕ → ℕ → List (ℕ × Entry) → List (ℕ × Entry)
code_behind [] a lines = []
code_behind (b ∷ bytes) a lines = code_line a (b ∷ bytes) ∷ lines

-- at most n lines of code from an address on, up to a closed address
unfoldable pub code_of : ℕ → (ℕ → ℕ) → ℕ → List (ℕ × Entry)
code_of zero m a = []
code_of (suc n) m a = code_behind (code_bytes m a) a (code_of n m ((a + code_size a (code_bytes m a)) % 65536))

-- a line of code of bytes at an address, with its size; none of no bytes
abbrev pub IsCodeLine : Option (Line × ℕ) → ℕ → List ℕ → Type 0
IsCodeLine (Some l) a bytes = ((lines : List (ℕ × Entry)) → code_behind bytes a lines ≡ shown l.0 ∷ lines) × (l.1 ≡ code_size a bytes)
IsCodeLine None a bytes = (lines : List (ℕ × Entry)) → code_behind bytes a lines ≡ []
