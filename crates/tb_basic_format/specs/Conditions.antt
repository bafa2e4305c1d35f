-- Where the condition of an IF ends, in a text without spaces.
use Rattle.std.specs.Prelude.{ℕ, ◌+◌, List, [], ◌∷◌, Option, Some, None, is_some, ◌==◌, ◌||◌, if◌then◌else◌, codes}
use Rattle.tb_basic_grammar.specs.Grammar.{is_digit, is_letter}
use Rattle.tb_basic_grammar.specs.Reading.{behind_word, when}
use Rattle.tb_basic_format.specs.declared.conditions.Place.{Place}
use Rattle.tb_basic_format.specs.declared.conditions.Place.TheVariants.{Operand, RandomN, RandomD, Operator}

-- the place after a byte that is no letter of a word: after the end of an operand, else where one may begin
abbrev pub place_after : ℕ → Place
place_after b = if is_letter b || is_digit b || (b == 41) then Operator else Operand

-- The place after the first byte of a text. The condition ends before a letter that follows an operand: no operand may
-- begin there, so it is the first letter of THEN or of a statement.
abbrev pub next_place : Place → List ℕ → Option Place
next_place place [] = None
next_place Operand (b ∷ text) = Some (if is_some (behind_word (codes "RND") (b ∷ text)) then RandomN else place_after b)
next_place RandomN (b ∷ text) = Some RandomD
next_place RandomD (b ∷ text) = Some Operator
next_place Operator (b ∷ text) = if is_letter b then None else Some (place_after b)

-- how many bytes belong to the condition from a place on
unfoldable pub condition_length : Place → List ℕ → ℕ
condition_length place [] = 0
condition_length place (b ∷ text) = when (next_place place (b ∷ text)) 0 (λ next. 1 + condition_length next text)
