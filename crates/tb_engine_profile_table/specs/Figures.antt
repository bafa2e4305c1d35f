-- Numbers and words in texts.
use Rattle.std.specs.Prelude.{ℕ, Bool, ◌+◌, ◌-◌, ◌*◌, ◌/◌, ◌%◌, List, [], ◌∷◌, ◌++◌, codes, length, replicate, ◌==◌, ◌&&◌, not, if◌then◌else◌}
use Rattle.tb_engine_profile_table.specs.Numbers.{CYCLES_A_SECOND}
use Rattle.std.specs.Fmt.{decimal}

-- a word, right-aligned in n columns; a longer one takes as many as it has
unfoldable pub right : ℕ → List ℕ → List ℕ
right columns word = replicate (columns - length word) 32 ++ word

-- how many thousandths of the whole a part is, to the nearest, a half upwards; 0 if the whole is 0
unfoldable pub share : ℕ → ℕ → ℕ
share part all = if all == 0 then 0 else (part * 1000 + all / 2) / all

-- the percentage that this many thousandths make, with one decimal digit
unfoldable pub percent : ℕ → List ℕ
percent thousandths = decimal (thousandths / 10) ++ (codes "." ++ (decimal (thousandths % 10) ++ codes "%"))

-- a comma comes between a digit and groups of three digits after it
abbrev pub ends_group : ℕ → Bool
ends_group after = not (after == 0) && (after % 3 == 0)

-- a digit with n digits after it
unfoldable pub digit_text : ℕ → ℕ → List ℕ
digit_text digit after = if ends_group after then digit ∷ 44 ∷ [] else digit ∷ []

-- the digits of a number, its thousands marked
abbrev pub marked : List ℕ → List ℕ
marked [] = []
marked (d ∷ ds) = digit_text d (length ds) ++ marked ds

-- the cycles of each of so many times, to the nearest, a half upwards; 0 if there are none
unfoldable pub each : ℕ → ℕ → ℕ
each cycles times = if times == 0 then 0 else (cycles + times / 2) / times

-- the thousandths of a second of a PAL machine that these cycles take, to the nearest
abbrev pub thousandths_of_second : ℕ → ℕ
thousandths_of_second cycles = (cycles * 1000 + CYCLES_A_SECOND / 2) / CYCLES_A_SECOND

-- thousandths as seconds, with three decimal digits
abbrev pub as_seconds : ℕ → List ℕ
as_seconds t = marked (decimal (t / 1000)) ++ codes "." ++ decimal (t % 1000 / 100) ++ decimal (t % 100 / 10) ++ decimal (t % 10)

-- the seconds of a PAL machine that these cycles take
unfoldable pub seconds : ℕ → List ℕ
seconds cycles = as_seconds (thousandths_of_second cycles)
