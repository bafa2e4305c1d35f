-- Single bytes and words of code, and addresses modulo 65,536.
use Rattle.std.specs.Prelude.{ℕ, ◌+◌, ◌-◌, ◌*◌, ◌%◌, Bool, ◌&&◌, List, length, drop, nat_lt, nat_le, eqb, if◌then◌else◌, slice_index}
use Rattle.tb_runtime16.specs.Addresses.{entry_of}
use Rattle.tb_runtime16.specs.declared.addresses.Routine.{Routine}

-- the address some bytes before another one
abbrev pub back : ℕ → ℕ → ℕ
back at n = (at + (65536 - n)) % 65536

-- the address after some bytes
abbrev pub forth : ℕ → ℕ → ℕ
forth at n = (at + n) % 65536

-- the last bytes, or all if there are fewer
abbrev pub last : ℕ → List ℕ → List ℕ
last n bs = drop (length bs - n) bs

-- the byte at an offset, 0 if there is none
abbrev pub byte_in : List ℕ → ℕ → ℕ
byte_in bs k = if nat_lt k (length bs) then slice_index bs k else 0

-- the word with the low byte and the high byte at these offsets
abbrev pub pair_in : List ℕ → ℕ → ℕ → ℕ
pair_in bs low high = byte_in bs low + 256 * byte_in bs high

-- the word at an offset
abbrev pub word_in : List ℕ → ℕ → ℕ
word_in bs k = pair_in bs k (k + 1)

-- whether this byte is at an offset
abbrev pub is_at : List ℕ → ℕ → ℕ → Bool
is_at bs k b = nat_lt k (length bs) && eqb (slice_index bs k) b

-- whether a call of a routine is at an offset: JSR and its entry
abbrev pub is_call : List ℕ → ℕ → Routine → Bool
is_call bs k r = is_at bs k 0x20 && (nat_le (k + 3) (length bs) && eqb (word_in bs (k + 1)) (entry_of r))
