-- The code around a place of a line, and what is asked of it.
use Rattle.std.specs.Prelude.{ℕ, ◌+◌, ◌-◌, nat_eq, nat_lt, nat_le, Bool, true, false, not, ◌&&◌, ◌||◌, ◌==◌, if◌then◌else◌}
use Rattle.std.specs.Prelude.{List, [], ◌∷◌, length, reverse, take, drop, codes}
use Rattle.std.specs.Char.{is_ascii_uppercase}
use Rattle.std.specs.List.{starts_with}
use Rattle.tb_engine_findings.specs.declared.surroundings.Situation.{Situation}
use Rattle.tb_engine_findings.specs.declared.surroundings.Situation.TheVariants.{Anywhere, InPrint, AtItem, LastInPrint, WithoutRelation, Closed, ClosedLater, NeverClosed}
use Rattle.tb_engine_findings.specs.declared.surroundings.Surroundings.{Surroundings as RustSurroundings}
use Rattle.tb_engine_findings.specs.Patterns.{is_in}

-- ── code ──
-- a text without spaces, and with nothing between its quotes; it may begin between two quotes
abbrev pub code_of : Bool → List ℕ → List ℕ
code_of is_text [] = []
code_of is_text (b ∷ bs) =
    if b == 34 then b ∷ code_of (not is_text) bs
    else if is_text || (b == 32) then code_of is_text bs
    else b ∷ code_of is_text bs

-- the code before a place and from it on, and whether no letter is right before the place
pub record Surroundings : Type 0 where
  pub before : List ℕ
  pub behind : List ℕ
  pub begins_word : Bool

-- the code's surroundings as these
abbrev pub around_of : RustSurroundings → Surroundings
around_of s = record { before = s.before.items; behind = s.behind.items; begins_word = s.begins_word }

-- whether a list, the first byte last, does not end in a letter
abbrev pub no_letter_last : List ℕ → Bool
no_letter_last [] = true
no_letter_last (b ∷ bs) = not (is_ascii_uppercase b)

-- whether no letter is at the end of a text
abbrev pub begins_word : List ℕ → Bool
begins_word text = no_letter_last (reverse text)

-- the code around a place of a line
abbrev pub code_around : List ℕ → ℕ → Surroundings
code_around line place = record {
  before = code_of false (take place line);
  behind = code_of false (drop place line);
  begins_word = begins_word (take place line);
}

-- ── what is asked ──
-- whether code has a PRINT, or a PR that can't be the name P and a letter
abbrev pub is_in_print : List ℕ → Bool
is_in_print code = is_in (codes "PRINT") code || is_in (codes "dPR") code

-- whether an IF has no relation behind it
abbrev pub lacks_relation : List ℕ → Bool
lacks_relation [] = false
lacks_relation (b ∷ bs) = (starts_with nat_eq (b ∷ bs) (codes "IF") && not (is_in (codes "r") bs)) || lacks_relation bs

-- how often a byte is in code
abbrev pub count_of : ℕ → List ℕ → ℕ
count_of b [] = 0
count_of b (c ∷ cs) = if c == b then count_of b cs + 1 else count_of b cs

-- how many more parentheses code opens than it closes
abbrev pub opened : List ℕ → ℕ
opened code = count_of 40 code - count_of 41 code

-- how many more it closes than it opens
abbrev pub closed : List ℕ → ℕ
closed code = count_of 41 code - count_of 40 code

-- whether a situation is the one around a place
abbrev pub holds : Situation → Surroundings → Bool
holds Anywhere s = true
holds InPrint s = is_in_print s.before
holds AtItem s = is_in_print s.before && s.begins_word
holds LastInPrint s = is_in_print s.before && (length s.behind == 1)
holds WithoutRelation s = lacks_relation s.before && s.begins_word
holds Closed s = opened s.before == 0
holds ClosedLater s = nat_lt 0 (opened s.before) && nat_le (opened s.before) (closed s.behind)
holds NeverClosed s = nat_lt (closed s.behind) (opened s.before)
