-- Words and spaces at the front of a text.
use Rattle.std.specs.Prelude.{ℕ, ◌-◌, ◌==◌, ◌||◌, Bool, is_some, List, [], ◌∷◌, length, take, if◌then◌else◌}
use Rattle.tb_asm.specs.Names.{fold_byte, may_follow}
use Rattle.tb_asm.specs.Parts.{digit_value}

-- whether a byte belongs to a word: a letter, a digit, `_` or a full stop
abbrev pub is_word_byte : ℕ → Bool
is_word_byte b = may_follow (fold_byte b) || (b == 46)

-- whether a byte is a hexadecimal digit
abbrev pub is_digit : ℕ → Bool
is_digit b = is_some (digit_value b)

-- what is left of a text from a byte on
abbrev pub from_byte : ℕ → List ℕ → List ℕ
from_byte wanted [] = []
from_byte wanted (b ∷ bs) = if b == wanted then b ∷ bs else from_byte wanted bs

-- what follows the hexadecimal digits, the spaces or the word at the front
abbrev pub past_digits : List ℕ → List ℕ
past_digits [] = []
past_digits (b ∷ bs) = if is_digit b then past_digits bs else b ∷ bs

abbrev pub past_spaces : List ℕ → List ℕ
past_spaces [] = []
past_spaces (b ∷ bs) = if b == 32 then past_spaces bs else b ∷ bs

abbrev pub past_word : List ℕ → List ℕ
past_word [] = []
past_word (b ∷ bs) = if is_word_byte b then past_word bs else b ∷ bs

-- what stands in a text before what is left of it
abbrev pub before : List ℕ → List ℕ → List ℕ
before text left = take (length text - length left) text
