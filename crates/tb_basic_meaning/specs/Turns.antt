-- The interpreter's reading of numbers, as the meaning's.
use Rattle.std.specs.Prelude.{◌≡◌, ℕ}
use Rattle.tb_words.specs.Words.{word}
use Rattle.tb_basic_meaning.specs.declared.turns.Reading as rust_reading
use Rattle.tb_basic_meaning.specs.declared.turns.Reading.TheVariants as reading
use Rattle.tb_basic_meaning.specs.declared.turns.Turn as rust_turn
use Rattle.tb_basic_meaning.specs.declared.turns.Turn.TheVariants as turn
use Rattle.tb_basic_meaning.specs.Input.{Reading, Nothing, Sign, Digits, Turn, Got, Bad, Dry}

-- what the interpreter has read of a number
abbrev pub reading_of : rust_reading.Reading → Reading
reading_of reading.Nothing = Nothing
reading_of (reading.Sign negative) = Sign negative
reading_of (reading.Digits negative n) = Digits negative n

-- what the interpreter has read is the meaning's reading, with the digits kept modulo 65,536
abbrev pub IsReading : Reading → rust_reading.Reading → Type 0
IsReading r (reading.Digits negative n) = (m : ℕ) × (r ≡ Digits negative m) × (word m ≡ word n)
IsReading r r' = r ≡ reading_of r'

-- how the interpreter's turn ends
abbrev pub IsTurn : Turn → rust_turn.Turn → Type 0
IsTurn t (turn.Got v stays rest) = t ≡ Got v stays rest.now
IsTurn t turn.Bad = t ≡ Bad
IsTurn t turn.Dry = t ≡ Dry
