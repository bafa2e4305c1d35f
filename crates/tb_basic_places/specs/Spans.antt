-- Spans of a line.
use Rattle.std.specs.Prelude.{ℕ, ◌+◌, ◌-◌, min, max, Bool, ◌&&◌, ◌||◌, ◌==◌, nat_le, List, [], ◌∷◌, drop, length, take, if◌then◌else◌}
use Rattle.tb_basic_places.specs.Columns.{goes_on, units_of}
use Rattle.tb_basic_places.specs.declared.spans.Span.{Span}

-- a letter, capital or small
abbrev pub is_letter : ℕ → Bool
is_letter b = (nat_le 65 b && nat_le b 90) || (nat_le 97 b && nat_le b 122)

-- a digit
abbrev pub is_digit : ℕ → Bool
is_digit b = nat_le 48 b && nat_le b 57

-- how many letters a text begins with
abbrev pub letters : List ℕ → ℕ
letters [] = 0
letters (b ∷ bytes) = if is_letter b then letters bytes + 1 else 0

-- how many digits
abbrev pub digits : List ℕ → ℕ
digits [] = 0
digits (b ∷ bytes) = if is_digit b then digits bytes + 1 else 0

-- how many bytes that begin no character
abbrev pub continued : List ℕ → ℕ
continued [] = 0
continued (b ∷ bytes) = if goes_on b then continued bytes + 1 else 0

-- how many spaces
abbrev pub spaces : List ℕ → ℕ
spaces [] = 0
spaces (b ∷ bytes) = if b == 32 then spaces bytes + 1 else 0

-- how many bytes are before the last spaces of a text, by how many were looked at and how many of these that were
abbrev pub end_from : ℕ → ℕ → List ℕ → ℕ
end_from at found [] = found
end_from at found (b ∷ bytes) = end_from (at + 1) (if b == 32 then found else at + 1) bytes

-- one more where `$` follows
abbrev pub dollar : List ℕ → ℕ
dollar [] = 0
dollar (b ∷ bytes) = if b == 36 then 1 else 0

-- so many bytes of a text, and one more where `$` follows
abbrev pub with_dollar : List ℕ → ℕ → ℕ
with_dollar text count = count + dollar (drop count text)

-- how many bytes stand at the beginning of a text: letters and a `$` directly after them, digits, or else a character
abbrev pub standing : List ℕ → ℕ
standing [] = 0
standing (b ∷ bytes) =
    if is_letter b then with_dollar (b ∷ bytes) (letters (b ∷ bytes))
    else if is_digit b then digits (b ∷ bytes)
    else 1 + continued bytes

-- from one byte of a line to another, the line counted from 1
abbrev pub between : ℕ → List ℕ → ℕ → ℕ → Span
between line text start end = record { line = line - 1; start = units_of (take start text); end = units_of (take end text) }

-- so many bytes of a line from one on
abbrev pub piece : ℕ → List ℕ → ℕ → ℕ → Span
piece line text start count = between line text start (start + count)

-- the rest of a line from one byte on, without the spaces at its end
abbrev pub tail : ℕ → List ℕ → ℕ → Span
tail line text start = between line text start (end_from 0 0 text)

-- from a byte of a line to after what stands there
abbrev pub span_from : ℕ → List ℕ → ℕ → Span
span_from line text start = between line text start (start + standing (drop start text))

-- what stands at a column of a line, both counted from 1
abbrev pub place_span : ℕ → List ℕ → ℕ → Span
place_span line text column = span_from line text (min (column - 1) (length text))

-- where the letters at the end of a text begin, by how many bytes were looked at and where those of them begin
abbrev pub last_word : ℕ → ℕ → List ℕ → ℕ
last_word at start [] = start
last_word at start (b ∷ bytes) = last_word (at + 1) (if is_letter b then start else at + 1) bytes

-- the letters round a byte of a line
abbrev pub word_round : ℕ → List ℕ → ℕ → Span
word_round line text at = between line text (last_word 0 0 (take at text)) (at + letters (drop at text))

-- the letters round a column of a line, both counted from 1
abbrev pub word_span : ℕ → List ℕ → ℕ → Span
word_span line text column = word_round line text (min (column - 1) (length text))

-- a line, counted from 1, without the spaces at its ends
abbrev pub line_span : ℕ → List ℕ → Span
line_span line text = between line text (spaces text) (max (end_from 0 0 text) (spaces text))

-- the beginning of a source
abbrev pub whole_span : Span
whole_span = record { line = 0; start = 0; end = 0 }
