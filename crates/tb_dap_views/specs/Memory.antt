-- Bytes of a run's memory.
use Rattle.std.specs.Prelude.{ℕ, ℤ, pos, negsuc, zero, suc, ◌+◌, ◌-◌, min, nat_lt, List, [], ◌∷◌, length, Option, Some, None, Result, Ok, Err, unwrap_or, if◌then◌else◌}
use Rattle.base64.specs.GeneralPurpose.{encode_of}
use Rattle.base64.specs.Engines.{standard}
use Rattle.serde_json.specs.Data.{Data}
use Rattle.tb_dap_values.specs.Bodies.{memory_body}
use Rattle.tb_memmap.specs.Bytes.{peek}
use Rattle.tb_memmap.specs.declared.memory.Closed.{Closed}
use Rattle.tb_dap_views.specs.Texts.{reference}

-- how many of some places from one on there are
abbrev pub many : ℕ → ℕ → ℕ
many place count = min count (65536 - place)

-- a byte before others, if it can be read
abbrev pub before : Result ℕ Closed → List ℕ → List ℕ
before (Ok byte) bytes = byte ∷ bytes
before (Err closed) bytes = []

-- the bytes from a place on, so many at most, up to the first one that is closed
abbrev pub readable : ℕ → (ℕ → ℕ) → ℕ → List ℕ
readable zero m a = []
readable (suc n) m a = before (peek m a) (readable n m (a + 1))

-- a place or an index so many on or back; none before the first one
abbrev pub shifted : ℕ → ℤ → Option ℕ
shifted place (pos n) = Some (place + min n 65536)
shifted place (negsuc n) = if nat_lt n place then Some (place - suc n) else None

-- the bytes that can be read from a place on
abbrev pub bytes_from : (ℕ → ℕ) → Option ℕ → ℕ → List ℕ
bytes_from m (Some a) count = readable (many a count) m a
bytes_from m None count = []

-- what can be read of so many bytes from a place on, and how many can't be
abbrev pub memory_by : Option ℕ → ℕ → List ℕ → Data
memory_by place count bytes = memory_body (reference (unwrap_or place 0)) (encode_of standard bytes) (count - length bytes)

-- the memory from a place on
abbrev pub memory_of : (ℕ → ℕ) → Option ℕ → ℕ → Data
memory_of m place count = memory_by place count (bytes_from m place count)
