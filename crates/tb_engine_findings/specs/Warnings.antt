-- The warnings on a source that is compiled.
use Rattle.std.specs.Prelude.{ℕ, ◌+◌, ◌-◌, ◌%◌, nat_le, nat_lt, Bool, true, false, ◌&&◌, ◌||◌, ◌==◌, if◌then◌else◌, List, [], ◌∷◌, ◌++◌, flat_map, map}
use Rattle.std.specs.Prelude.{Option, Some, None, option_to_list}
use Rattle.std.specs.Option.{option_or}
use Rattle.std.specs.List.{list_any}
use Rattle.tb_words.specs.Words.{is_negative, signed}
use Rattle.tb_basic_syntax.specs.declared.expressions.Operator.{Operator}
use Rattle.tb_basic_syntax.specs.declared.expressions.Operator.TheVariants.{Divide}
use Rattle.tb_basic_syntax.specs.Parts.{expressions_of, jump_of}
use Rattle.tb_basic_syntax.specs.Source.{Expression, Number, Variable, Negate, Binary, Random, Item, Text, Value, Zone, Program, numbers}
use Rattle.tb_basic_syntax.specs.Source.{Statement, Let, Print, Input, If, Goto, Gosub, Return, End, Remark}
use Rattle.tb_basic_meaning.specs.Bounds.{statement_bounds}
use Rattle.tb_basic_meaning.specs.Control.{content_at, highest}
use Rattle.tb_basic_meaning.specs.Missing.{missing_targets}
use Rattle.tb_basic_meaning.specs.Values.{constant}
use Rattle.tb_engine_findings.specs.declared.lines.NumberedLine.{NumberedLine}
use Rattle.tb_engine_findings.specs.declared.warnings.LineWarning.{LineWarning}
use Rattle.tb_engine_findings.specs.declared.warnings.Warning.{Warning}
use Rattle.tb_engine_findings.specs.declared.warnings.Warning.TheVariants.{NoLine, HighTarget, Replaced, TakenOut, RunsPast, EvenBound}
use Rattle.tb_engine_findings.specs.declared.warnings.Warning.TheVariants.{BoundOfOne, BadBound, ZeroDivisor, HighNumber, KeyCharacter}
use Rattle.tb_engine_findings.specs.Numbers.{FIRST_KEY, HIGHEST_NUMBER, LARGEST_BOUND, LAST_KEY, LOWEST_NEGATED}
use Rattle.tb_engine_findings.specs.Entries.{is_one_of}

-- ── a later line ──
-- the last line that has a number, if one has
abbrev pub last_with : ℕ → List NumberedLine → Option NumberedLine
last_with n [] = None
last_with n (l ∷ ls) = option_or (last_with n ls) (if l.number == n then Some l else None)

-- a line that was found, if it is another line than this
abbrev pub another : NumberedLine → Option NumberedLine → Option NumberedLine
another l None = None
another l (Some by) = if by.line == l.line then None else Some by

-- a line whose number a later line has: taken out if that is a bare number, else replaced
abbrev pub outdone : ℕ → NumberedLine → Warning
outdone number by = if by.is_bare then TakenOut number by.line else Replaced number by.line

-- ── a missing line ──
-- the targets of line n among lines with targets
abbrev pub targets_at : ℕ → List (ℕ × ℕ) → List ℕ
targets_at n [] = []
targets_at n (jump ∷ jumps) = if jump.0 == n then jump.1 ∷ targets_at n jumps else targets_at n jumps

-- that there is no line of each of these numbers
abbrev pub to_targets : List ℕ → List Warning
to_targets targets = map (λ target. NoLine (signed target)) targets

-- the missing target of line n, of which the compiler warns
abbrev pub no_lines : Program → ℕ → List Warning
no_lines p n = to_targets (targets_at n (missing_targets p))

-- ── a target that no line can have ──
-- a target that is written as a number above all line numbers
abbrev pub high_target : Expression → List Warning
high_target (Number n) = if nat_lt HIGHEST_NUMBER n then HighTarget n ∷ [] else []
high_target _ = []

-- the target of a jump, if there is one and it is written as a number above all line numbers
abbrev pub high_by : Option (Expression × Bool) → List Warning
high_by (Some jump) = high_target jump.0
high_by None = []

-- the target of a statement's jump, if it is written as a number above all line numbers
abbrev pub high_targets : Statement → List Warning
high_targets c = high_by (jump_of c)

-- ── the last line ──
-- whether the next line may follow a statement
abbrev pub goes_on : Statement → Bool
goes_on (Goto e) = false
goes_on Return = false
goes_on End = false
goes_on _ = true

-- the highest line, if the next one would follow it
abbrev pub runs_past : Program → ℕ → Statement → List Warning
runs_past p n c = if (n == highest (numbers p)) && goes_on c then RunsPast ∷ [] else []

-- ── bounds of RND ──
-- the bounds of a statement that have a value without variables and RND, from left to right
abbrev pub known_bounds : Statement → List ℕ
known_bounds c = flat_map option_to_list (statement_bounds c)

-- whether RND with a bound is odd and even in turns, and there is a better bound
abbrev pub is_even_bound : ℕ → Bool
is_even_bound n = (n % 2 == 0) && (nat_le 2 n && nat_le n LARGEST_BOUND)

-- on a bound
abbrev pub on_bound : ℕ → List Warning
on_bound n =
    if n == 1 then BoundOfOne ∷ []
    else if (n == 0) || is_negative n then BadBound (signed n) ∷ []
    else if is_even_bound n then EvenBound n ∷ []
    else []

-- on bounds after others, each once
abbrev pub on_bounds_after : (before bounds : List ℕ) → List Warning
on_bounds_after before [] = []
on_bounds_after before (n ∷ ns) = (if is_one_of n before then [] else on_bound n) ++ on_bounds_after (before ++ n ∷ []) ns

-- on a statement's bounds of RND, each once
abbrev pub on_bounds : List ℕ → List Warning
on_bounds bounds = on_bounds_after [] bounds

-- ── divisions ──
-- whether an operator divides by 0, if its right operand has this value
abbrev pub is_zero_division : Operator → Option ℕ → Bool
is_zero_division Divide (Some n) = n == 0
is_zero_division _ _ = false

-- whether an expression has a divisor that is 0 without variables and RND
abbrev pub divides_by_zero : Expression → Bool
divides_by_zero (Number n) = false
divides_by_zero (Variable x) = false
divides_by_zero (Negate e) = divides_by_zero e
divides_by_zero (Binary op l r) = divides_by_zero l || (divides_by_zero r || is_zero_division op (constant r))
divides_by_zero (Random e) = divides_by_zero e

-- whether a statement has one
abbrev pub statement_divides_by_zero : Statement → Bool
statement_divides_by_zero c = list_any divides_by_zero (expressions_of c)

-- on a statement with one
abbrev pub zero_divisors : Statement → List Warning
zero_divisors c = if statement_divides_by_zero c then ZeroDivisor ∷ [] else []

-- ── numbers that are read as negative ones ──
-- on a number
abbrev pub on_number : ℕ → List Warning
on_number n = if nat_lt HIGHEST_NUMBER n then HighNumber n ∷ [] else []

-- whether an expression is a number alone: of such a target, and of such a bound of RND, there is another warning
abbrev pub is_number : Expression → Bool
is_number (Number n) = true
is_number _ = false

-- whether it is 32768, which is the lowest number behind a minus sign
abbrev pub is_lowest : Expression → Bool
is_lowest (Number n) = n == LOWEST_NEGATED
is_lowest _ = false

-- on the numbers of an expression, from left to right
abbrev pub expression_highs : Expression → List Warning
expression_highs (Number n) = on_number n
expression_highs (Variable x) = []
expression_highs (Negate e) = if is_lowest e then [] else expression_highs e
expression_highs (Binary op l r) = expression_highs l ++ expression_highs r
expression_highs (Random e) = if is_number e then [] else expression_highs e

-- on those of an item of PRINT
abbrev pub item_highs : Item → List Warning
item_highs (Text t) = []
item_highs (Value e) = expression_highs e
item_highs Zone = []

-- on those of a statement
abbrev pub statement_highs : Statement → List Warning
statement_highs (Let x e) = expression_highs e
statement_highs (Print items ends) = flat_map item_highs items
statement_highs (Input xs) = []
statement_highs (If l rel r c) = expression_highs l ++ (expression_highs r ++ statement_highs c)
statement_highs (Goto e) = if is_number e then [] else expression_highs e
statement_highs (Gosub e) = if is_number e then [] else expression_highs e
statement_highs Return = []
statement_highs End = []
statement_highs Remark = []

-- ── characters whose signs are names of function keys ──
-- on a byte of a text
abbrev pub on_byte : ℕ → List Warning
on_byte b = if nat_le FIRST_KEY b && nat_le b LAST_KEY then KeyCharacter (b - FIRST_KEY + 1) ∷ [] else []

-- on the text of an item of PRINT
abbrev pub item_keys : Item → List Warning
item_keys (Text t) = flat_map on_byte t
item_keys (Value e) = []
item_keys Zone = []

-- on those of a statement
abbrev pub statement_keys : Statement → List Warning
statement_keys (Print items ends) = flat_map item_keys items
statement_keys (If l rel r c) = statement_keys c
statement_keys _ = []

-- ── all warnings ──
-- on line n of the program, in their order
abbrev pub on_statement : Program → ℕ → Option Statement → List Warning
on_statement p n None = []
on_statement p n (Some c) =
    no_lines p n ++ (high_targets c ++ (runs_past p n c ++ (on_bounds (known_bounds c)
    ++ (zero_divisors c ++ (statement_highs c ++ statement_keys c)))))

-- on a line that is not bare, by the later line that has its number; if there is none, it is the program's
abbrev pub on_stated : Program → ℕ → Option NumberedLine → List Warning
on_stated p n (Some by) = outdone n by ∷ []
on_stated p n None = on_statement p n (content_at p n)

-- warnings at a line of the file
abbrev pub at : ℕ → List Warning → List LineWarning
at line ws = map (λ w. record { line = line; warning = w }) ws

-- on a line of the file, by the later line that has its number
abbrev pub on_line : Program → NumberedLine → Option NumberedLine → List LineWarning
on_line p l by = at l.line (if l.is_bare then [] else on_stated p l.number by)

-- on all lines, in the order of the file
abbrev pub warnings_on : Program → List NumberedLine → List LineWarning
warnings_on p lines = flat_map (λ l. on_line p l (another l (last_with l.number lines))) lines
