-- Lines with signs in their texts. A sign is what tb_basic_signs reads at `{`, `[` or `]`; all else is as in a line
-- without.
use Rattle.std.specs.Prelude.{◌≡◌, ℕ, zero, suc, ◌+◌, ◌-◌, List, [], ◌∷◌, ◌++◌, replicate, Bool, true, false, ◌&&◌, ◌||◌, ◌==◌, if◌then◌else◌, Option, Some, None}
use Rattle.tb_basic_grammar.specs.Reading.{when}
use Rattle.tb_basic_signs.specs.declared.characters.Character.{Character}
use Rattle.tb_basic_signs.specs.Characters.{character_at}
use Rattle.tb_parser.specs.declared.squeeze.Mode.{Mode}
use Rattle.tb_parser.specs.declared.squeeze.Mode.TheVariants.{Code, CodeR, CodeRe, Text, Remark}
use Rattle.tb_parser.specs.declared.squeeze.Placed.{Placed}
use Rattle.tb_parser.specs.Scans.{is_bad}
use Rattle.tb_parser.specs.Squeezed.{after, is_dropped, is_in_code, shown}

-- whether a mode is in a text
abbrev pub is_in_text : Mode → Bool
is_in_text Code = false
is_in_text CodeR = false
is_in_text CodeRe = false
is_in_text Text = true
is_in_text Remark = false

-- whether a sign may begin with a byte: in a text, with `{`, `[` or `]`
abbrev pub may_begin : Mode → ℕ → Bool
may_begin m b = is_in_text m && ((b == 123) || ((b == 91) || (b == 93)))

-- the sign that the rest of a line begins with
abbrev pub sign_at : Mode → List ℕ → Option Character
sign_at m [] = None
sign_at m (b ∷ line) = if may_begin m b then character_at (b ∷ line) else None

-- whether there is a place where a sign may begin
unfoldable pub has_signs : Mode → List ℕ → Bool
has_signs m [] = false
has_signs m (b ∷ line) = may_begin m b || has_signs (after m b) line

-- no line of these has such a place
abbrev pub LackSigns : List (List ℕ) → Type 0
LackSigns [] = Unit {0}
LackSigns (line ∷ lines) = (has_signs Code line ≡ false) × LackSigns lines

-- the column of the first byte that is not allowed, from after those on that belong to a sign before
unfoldable pub first_bad : (taken : ℕ) → Mode → ℕ → List ℕ → Option ℕ
first_bad taken m column [] = None
first_bad (suc taken) m column (b ∷ line) = first_bad taken m (column + 1) line
first_bad zero m column (b ∷ line) =
    when (sign_at m (b ∷ line)) (if is_bad m b then Some column else first_bad 0 (after m b) (column + 1) line)
    (λ c. first_bad (c.length - 1) m (column + 1) line)

-- the bytes that a sign stands for, all at its column
abbrev pub placed_of : ℕ → Character → List Placed
placed_of column c = replicate c.times (record { byte = c.byte; column = column; in_code = false })

-- what is kept of a byte that belongs to no sign
abbrev pub kept_at : Mode → ℕ → ℕ → List Placed
kept_at m column b = if is_dropped m b then [] else record { byte = shown m b; column = column; in_code = is_in_code m } ∷ []

-- the bytes that are left, and those of signs, from after those on that belong to a sign before
unfoldable pub squeezed_from : (taken : ℕ) → Mode → ℕ → List ℕ → List Placed
squeezed_from taken m column [] = []
squeezed_from (suc taken) m column (b ∷ line) = squeezed_from taken m (column + 1) line
squeezed_from zero m column (b ∷ line) =
    when (sign_at m (b ∷ line)) (kept_at m column b ++ squeezed_from 0 (after m b) (column + 1) line)
    (λ c. placed_of column c ++ squeezed_from (c.length - 1) m (column + 1) line)
