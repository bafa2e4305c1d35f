-- The state of a run between lines, and what moves it from line to line.
use Rattle.std.specs.Prelude.{ℕ, ◌+◌, ◌-◌, ◌%◌, Bool, false, ◌||◌, List, [], ◌∷◌, ◌++◌, length, replicate, if◌then◌else◌, nat_lt, nat_eq, Option, Some, None}
use Rattle.tb_basic_syntax.specs.Source.{Numbered}
use Rattle.tb_words.specs.Words.{digits_of}
use Rattle.tb_basic_meaning.specs.Numbers.{DEEPEST}
use Rattle.tb_basic_meaning.specs.Steps.{Faulted, Step, Goes, Stops}

-- where a run is: at a line, or past the last one
pub data Place : Type 0 where
  At : (n : ℕ) → Place
  Past : Place

-- the state of a run between lines
pub record State : Type 0 where
  pub place : Place
  pub vars : List ℕ
  pub seed : ℕ
  -- the places to return to, the newest first
  pub returns : List Place
  -- whether an input line is open
  pub open_line : Bool
  pub column : ℕ
  -- what is left of the keyboard's text
  pub text : List ℕ
  -- the answers not yet taken
  pub answers : List ℕ

-- how many returns can be noted
abbrev pub deepest : ℕ
deepest = DEEPEST

-- the content of line n
abbrev pub content_at : {A : Type 0} → List (Numbered A) → ℕ → Option A
content_at [] n = None
content_at (line ∷ lines) n = if nat_eq line.number n then Some line.content else content_at lines n

-- whether a number is one of the lines'
abbrev pub has_line : List ℕ → ℕ → Bool
has_line [] n = false
has_line (m ∷ ms) n = nat_eq m n || has_line ms n

-- the place of the first line above n
abbrev pub next_after : List ℕ → ℕ → Place
next_after [] n = Past
next_after (m ∷ ms) n = if nat_lt n m then At m else next_after ms n

-- the lowest line's place
abbrev pub first_place : List ℕ → Place
first_place [] = Past
first_place (m ∷ ms) = At m

-- the highest line's number
abbrev pub highest : List ℕ → ℕ
highest [] = 0
highest (m ∷ []) = m
highest (m ∷ k ∷ ms) = highest (k ∷ ms)

-- fault k at line n
abbrev pub fault_text : ℕ → ℕ → List ℕ
fault_text k n = 13 ∷ 33 ∷ (48 + k) ∷ 32 ∷ 65 ∷ 84 ∷ 32 ∷ (digits_of n ++ 13 ∷ [])

-- a run faults: it sends the fault's text and is over
abbrev pub fault : {S : Type 0} → ℕ → ℕ → Step S
fault k n = Stops Faulted (fault_text k n)

-- the column after more bytes
abbrev pub column_after : ℕ → List ℕ → ℕ
column_after c [] = c
column_after c (b ∷ bs) = column_after (if nat_eq b 13 then 0 else c + 1) bs

-- bytes sent, and the column after them
abbrev pub send : List ℕ → State → Step State
send t s = Goes (record s { column = column_after s.column t }) t

-- the spaces up to the next zone of eight columns, at least one
abbrev pub zone : ℕ → List ℕ
zone column = replicate (8 - column % 8) 32

-- the run goes on to the next line
abbrev pub fall : List ℕ → ℕ → State → Step State
fall ns n s = Goes (record s { place = next_after ns n }) []

-- GOTO, from line n
abbrev pub go_to : List ℕ → ℕ → ℕ → State → Step State
go_to ns n target s = if has_line ns target then Goes (record s { place = At target }) [] else fault 1 n

-- GOSUB, from line n
abbrev pub go_sub : List ℕ → ℕ → ℕ → State → Step State
go_sub ns n target s =
    if has_line ns target then
    (if nat_lt (length s.returns) deepest then
    Goes (record s { place = At target; returns = next_after ns n ∷ s.returns }) []
    else fault 4 n)
    else fault 1 n

-- the run goes to the place noted last
abbrev pub return_to : ℕ → List Place → State → Step State
return_to n [] s = fault 5 n
return_to n (p ∷ ps) s = Goes (record s { place = p; returns = ps }) []

-- RETURN, from line n
abbrev pub go_back : ℕ → State → Step State
go_back n s = return_to n s.returns s

-- one answer is taken; 3 is a break
abbrev pub answered : ℕ → List ℕ → State → Step State
answered n [] s = Goes s []
answered n (a ∷ rest) s = if nat_eq a 3 then fault 0 n else Goes (record s { answers = rest }) []

-- a line begins: it takes an answer, if one is left
abbrev pub poll : ℕ → State → Step State
poll n s = answered n s.answers s

-- a run is past the last line
abbrev pub past : {S : Type 0} → List ℕ → Step S
past ns = fault 7 (highest ns)
