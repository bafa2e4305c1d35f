-- Words of lines.
use Rattle.std.specs.Prelude.{ℕ, ◌-◌, Bool, ◌||◌, ◌==◌, List, [], ◌∷◌, drop, length, reverse, take, if◌then◌else◌}
use Rattle.tb_assembly_text.specs.Tokens.{is_name_byte, run}

-- whether a byte belongs to a word: a letter, a digit, `_`, a full stop, `@` or `!`
abbrev pub is_word_byte : ℕ → Bool
is_word_byte b = is_name_byte b || (b == 46) || (b == 64) || (b == 33)

-- the word at the front of a text
abbrev pub front_word : List ℕ → List ℕ
front_word text = take (run is_word_byte text) text

-- the word at a column of a line, counted from 1
abbrev pub word_at : List ℕ → ℕ → List ℕ
word_at line column = front_word (drop (column - 1) line)

-- a text without the blanks at its front
abbrev pub after_blanks : List ℕ → List ℕ
after_blanks [] = []
after_blanks (b ∷ text) = if (b == 32) || (b == 9) then after_blanks text else b ∷ text

-- a text without the blanks at its end
abbrev pub before_blanks : List ℕ → List ℕ
before_blanks text = reverse (after_blanks (reverse text))

-- how many bytes of a word a text ends with
abbrev pub size_at_end : List ℕ → ℕ
size_at_end text = run is_word_byte (reverse text)

-- the word at the end of a text
abbrev pub last_word : List ℕ → List ℕ
last_word text = drop (length text - size_at_end text) text

-- the last word before a column of a line, counted from 1, if nothing but blanks is between
abbrev pub word_before : List ℕ → ℕ → List ℕ
word_before line column = last_word (before_blanks (take (column - 1) line))
