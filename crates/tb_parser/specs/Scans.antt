-- What is looked for in a line before it is read.
use Rattle.std.specs.Prelude.{ℕ, ◌+◌, ◌-◌, ◌*◌, List, [], ◌∷◌, length, map, slice_index, Bool, true, false, Option, Some, None, nat_le}
use Rattle.std.specs.Prelude.{◌==◌, ◌&&◌, ◌||◌, if◌then◌else◌, codes}
use Rattle.tb_basic_grammar.specs.Grammar.{is_digit}
use Rattle.tb_parser.specs.declared.squeeze.Mode.{Mode}
use Rattle.tb_parser.specs.declared.squeeze.Mode.TheVariants.{Remark}
use Rattle.tb_parser.specs.declared.squeeze.Placed.{Placed}
use Rattle.tb_parser.specs.Squeezed.{after}

-- the column of the first byte that is no space; a line without one is blank
unfoldable pub first_written : ℕ → List ℕ → Option ℕ
first_written column [] = None
first_written column (b ∷ line) = if b == 32 then first_written (column + 1) line else Some column

-- whether a byte is from 32 to 90 or a lower-case letter
abbrev pub is_source_byte : ℕ → Bool
is_source_byte b = (nat_le 32 b && nat_le b 90) || (nat_le 97 b && nat_le b 122)

-- whether a byte is not allowed here; in a remark all are
abbrev pub is_bad : Mode → ℕ → Bool
is_bad Remark b = false
is_bad m b = if is_source_byte b then false else true

-- the column of the first bad byte before the remark
unfoldable pub first_bad : Mode → ℕ → List ℕ → Option ℕ
first_bad m column [] = None
first_bad m column (b ∷ line) = if is_bad m b then Some column else first_bad (after m b) (column + 1) line

-- whether the text begins with a digit
abbrev pub starts_with_digit : List Placed → Bool
starts_with_digit [] = false
starts_with_digit (p ∷ placed) = is_digit p.byte

-- a number, and what is left after it
pub record Counted : Type 0 where
  pub value : ℕ
  pub rest : List Placed

-- the value of the digits at the front, after a number that the digits before them spell, and what is left
unfoldable pub number_at : ℕ → List Placed → Counted
number_at n [] = record { value = n; rest = [] }
number_at n (p ∷ placed) =
    if is_digit p.byte then number_at (10 * n + (p.byte - 48)) placed
    else record { value = n; rest = p ∷ placed }

-- whether the text begins with a word
abbrev pub begins : List ℕ → List Placed → Bool
begins [] placed = true
begins (letter ∷ letters) [] = false
begins (letter ∷ letters) (p ∷ placed) = (p.byte == letter) && begins letters placed

-- whether the text begins with a word of Tiny BASIC that is not compiled
abbrev pub is_left_out : List Placed → Bool
is_left_out placed = begins (codes "USR") placed || begins (codes "RUN") placed || begins (codes "LIST") placed || begins (codes "CLEAR") placed

-- The column of the first such word outside texts and remarks. Spaces inside it are gone, and it may be part of a
-- longer run of letters.
unfoldable pub left_out_word : List Placed → Option ℕ
left_out_word [] = None
left_out_word (p ∷ placed) = if p.in_code && is_left_out (p ∷ placed) then Some p.column else left_out_word placed

-- the column of the byte from which on the given number of bytes are left
abbrev pub column_left : ℕ → List Placed → ℕ
column_left left placed = slice_index (map (λ p. p.column) placed) (length placed - left)
