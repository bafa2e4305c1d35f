-- PRG files: the load address, low byte first, and the bytes.
use Rattle.std.specs.Prelude.{ℕ, ◌+◌, ◌*◌, List, [], ◌∷◌, length, nat_lt, Result, Ok, Err, if◌then◌else◌}
use Rattle.tb_prg.specs.declared.PrgError.{PrgError}
use Rattle.tb_prg.specs.declared.PrgError.TheVariants.{TooShort, RunsPast}

-- the load address $0801, and there the line `10 SYS2061`: the address of the next line, the line's number, the token of SYS,
-- its digits and 0; then the end of the lines
abbrev pub header : List ℕ
header =
    0x01 ∷ 0x08 ∷
    0x0b ∷ 0x08 ∷ 0x0a ∷ 0x00 ∷ 0x9e ∷ 0x32 ∷ 0x30 ∷ 0x36 ∷ 0x31 ∷ 0x00 ∷
    0x00 ∷ 0x00 ∷ []

-- an address and the bytes from there on, none of which may lie after $FFFF
abbrev pub placed_at : ℕ → List ℕ → Result (ℕ × List ℕ) PrgError
placed_at at bytes = if nat_lt 65536 (at + length bytes) then Err RunsPast else Ok (at, bytes)

-- the load address and the bytes of a file; TooShort for fewer than two bytes, RunsPast for bytes after $FFFF
abbrev pub content_of : List ℕ → Result (ℕ × List ℕ) PrgError
content_of [] = Err TooShort
content_of (low ∷ []) = Err TooShort
content_of (low ∷ high ∷ bytes) = placed_at (low + 256 * high) bytes
