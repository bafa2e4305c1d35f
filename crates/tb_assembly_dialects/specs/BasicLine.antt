-- The BASIC line that a program may begin with.
use Rattle.std.specs.Prelude.{ℕ, suc, ◌+◌, ◌*◌, Bool, ◌&&◌, ◌||◌, not, List, [], ◌∷◌, length, drop, take, nat_lt, nat_le, eqb, slice_index, if◌then◌else◌}

-- how many bytes there are before the first 0, or at all
abbrev pub text_size : List ℕ → ℕ
text_size [] = 0
text_size (b ∷ bs) = if eqb b 0 then 0 else suc (text_size bs)

-- the word at the front of the bytes, low byte first
abbrev pub word_at : List ℕ → ℕ
word_at bs = slice_index bs 0 + 256 * slice_index bs 1

-- whether bytes at $0801 are one line with a text of this size and the end of the lines: the line begins with the address
-- behind the 0 that ends its text, where there are two more 0
abbrev pub is_basic : List ℕ → ℕ → Bool
is_basic bs n =
    nat_le (n + 7) (length bs) && (eqb (word_at bs) (n + 0x0806) && (eqb (slice_index bs (n + 5)) 0 && eqb (slice_index bs (n + 6)) 0))

-- how many bytes the BASIC line takes, with the end of the lines after it; 0 if a program doesn't begin with one line alone,
-- or with one whose text has more than 250 bytes
abbrev pub basic_size : ℕ → List ℕ → ℕ
basic_size at bs =
    if not (eqb at 0x0801) || nat_lt (length bs) 7 then 0 else
    if nat_le (text_size (drop 4 bs)) 250 && is_basic bs (text_size (drop 4 bs)) then text_size (drop 4 bs) + 7 else 0

-- its bytes
abbrev pub basic_line : ℕ → List ℕ → List ℕ
basic_line at bs = take (basic_size at bs) bs

-- what follows it
abbrev pub behind_basic : ℕ → List ℕ → List ℕ
behind_basic at bs = drop (basic_size at bs) bs
