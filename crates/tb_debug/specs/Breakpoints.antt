-- Breakpoints and watches.
use Rattle.std.specs.Prelude.{◌≡◌, ℕ, Bool, false, not, ◌||◌, ◌==◌, if◌then◌else◌, ℤ, pos}
use Rattle.std.specs.Prelude.{List, [], ◌∷◌, Option, Some, None, slice_index_or}
use Rattle.std.specs.List.Sorted.{IsNonDecreasingBy}
use Rattle.std.specs.Ordering.{int_eq}
use Rattle.tb_words.specs.declared.Letter.{Letter}
use Rattle.tb_words.specs.Letters.{letter_index}
use Rattle.tb_debug.specs.declared.breakpoints.StopPoints.{StopPoints}

-- the lines with a breakpoint
abbrev pub breakpoints_of : StopPoints → List ℕ
breakpoints_of s = s.breakpoints.items

-- the watched variables
abbrev pub watches_of : StopPoints → List Letter
watches_of s = s.watches.items

-- `c` stops where the program faults
abbrev pub stops_at_faults : StopPoints → Bool
stops_at_faults s = s.at_faults

-- lines are in rising order
abbrev pub AreRising : List ℕ → Type 0
AreRising lines = IsNonDecreasingBy (λ line. line) lines

-- a line is one of these
abbrev pub is_among : List ℕ → ℕ → Bool
is_among [] line = false
is_among (l ∷ ls) line = (line == l) || is_among ls line

-- the variable at an index in the alphabet is one of these
abbrev pub is_watched : List Letter → ℕ → Bool
is_watched [] k = false
is_watched (w ∷ ws) k = (k == letter_index w) || is_watched ws k

-- lines in which one is set if it was cleared, and cleared if it was set; the others are as they were
abbrev pub Turned : ℕ → List ℕ → List ℕ → Type 0
Turned line before after =
    (n : ℕ) → is_among after n ≡ (if n == line then not (is_among before n) else is_among before n)

-- variables of which one is watched if it was not, and not watched if it was; the others are as they were
abbrev pub WatchTurned : ℕ → List Letter → List Letter → Type 0
WatchTurned index before after =
    (k : ℕ) → is_watched after k ≡ (if k == index then not (is_watched before k) else is_watched before k)

-- a line has a breakpoint
abbrev pub breaks : List ℕ → Option ℕ → Bool
breaks lines None = false
breaks lines (Some line) = is_among lines line

-- the value of a variable
abbrev pub value_in : List ℤ → Letter → ℤ
value_in values letter = slice_index_or values (letter_index letter) (pos 0)

-- one of these variables has another value
abbrev pub differ : List Letter → List ℤ → List ℤ → Bool
differ [] before after = false
differ (w ∷ ws) before after = not (int_eq (value_in before w) (value_in after w)) || differ ws before after

-- ---- which of them

-- a line, if it has a breakpoint
abbrev pub broken : List ℕ → Option ℕ → Option ℕ
broken lines None = None
broken lines (Some line) = if is_among lines line then Some line else None

-- the first of these variables that has another value
abbrev pub first_changed : List Letter → List ℤ → List ℤ → Option Letter
first_changed [] before after = None
first_changed (w ∷ ws) before after = if int_eq (value_in before w) (value_in after w) then first_changed ws before after else Some w

-- ---- as a whole

-- exactly these lines have a breakpoint
abbrev pub AreSet : List ℕ → List ℕ → Type 0
AreSet lines set = (n : ℕ) → is_among set n ≡ is_among lines n
