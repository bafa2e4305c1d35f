-- That good sources are those that are not refused, and make the same programs.
use Rattle.std.proofs.lemmas.List.Elements.{All-nil, All-cons, All-head, All-tail}
use Rattle.std.proofs.lemmas.Bool.Decides.{nat_tests}
use Rattle.std.proofs.Common.{drop, Option, ◌≡◌, ◌≢◌, ℕ, ◌+◌, ◌-◌, ◌*◌, ◌≤◌, Bool, true, false, List, [], ◌∷◌, ◌++◌, length, All, Some, None, Ok, Err, Result, refl, sym, ap, ◌∙◌, subst, arith, ◌==◌, if◌then◌else◌}
use Rattle.tb_basic_syntax.specs.Source.{Statement, Program}
use Rattle.tb_basic_grammar.specs.Grammar.{IsDigit, IsLetter, is_digit, value_after}
use Rattle.tb_basic_grammar.proofs.Steps.{digit_is}
use Rattle.tb_basic_grammar.specs.Statements.{States, let_assign, assign, print, short_print, input, conditional, goto, gosub, return, end as ends, remark}
use Rattle.tb_parser.specs.declared.squeeze.Mode.{Mode}
use Rattle.tb_parser.specs.declared.squeeze.Mode.TheVariants.{Code}
use Rattle.tb_parser.specs.declared.squeeze.Placed.{Placed}
use Rattle.tb_basic_text.specs.declared.notation.Notation.TheVariants.{Plain}
use Rattle.tb_parser.specs.Files.{LinesIn, end, bad, good, Outcome, at_end, edited}
use Rattle.tb_basic_text.specs.Lines.{lines_of_file}
use Rattle.tb_parser.specs.Programs.{is_clean, kept_bytes, IsNumbered, LineMakes, AllMake, none, IsProgramOf}
use Rattle.tb_parser.specs.Programs as programs
use Rattle.tb_parser.specs.Readings.{Refusal, LineIn, blank, unfit, unnumbered, bad_line_number, deletes, sets, unread, IsNumberedIn, TextIs, reads, not_compiled, syntax, number_too_large, Edit, Nothing, Sets, Deletes}
use Rattle.tb_parser.specs.Scans.{is_bad, first_bad, first_written, number_at}
use Rattle.tb_parser.specs.Squeezed.{after, is_dropped, shown, is_in_code, squeezed_from, squeezed, bytes}

-- the bytes that are left of a line, without their places
pub spells : (m : Mode) (column : ℕ) (line : List ℕ) → bytes (squeezed_from m column line) ≡ kept_bytes m line
unfolding squeezed_from kept_bytes
spells m column [] = refl
spells m column (b ∷ line) = go (spells (after m b) (column + 1) line) (is_dropped m b)
  where
    go : bytes (squeezed_from (after m b) (column + 1) line) ≡ kept_bytes (after m b) line → (d : Bool)
        → bytes (if d then squeezed_from (after m b) (column + 1) line else record { byte = shown m b; column = column; in_code = is_in_code m } ∷ squeezed_from (after m b) (column + 1) line)
        ≡ (if d then kept_bytes (after m b) line else shown m b ∷ kept_bytes (after m b) line)
    go h true = h
    go h false = ap (λ bs. shown m b ∷ bs) h

-- a line without a bad byte is clean
pub cleaned : (m : Mode) (column : ℕ) (line : List ℕ) → first_bad m column line ≡ None → is_clean m line ≡ true
unfolding first_bad is_clean
cleaned m column [] e = refl
cleaned m column (b ∷ line) e = go (cleaned (after m b) (column + 1) line) (is_bad m b) e
  where
    go : (first_bad (after m b) (column + 1) line ≡ None → is_clean (after m b) line ≡ true) → (d : Bool)
        → (if d then Some column else first_bad (after m b) (column + 1) line) ≡ None → (if d then false else is_clean (after m b) line) ≡ true
    go h true e = absurd cc
    go h false e = h e

-- and the other way round
pub unbad : (m : Mode) (column : ℕ) (line : List ℕ) → is_clean m line ≡ true → first_bad m column line ≡ None
unfolding first_bad is_clean
unbad m column [] e = refl
unbad m column (b ∷ line) e = go (unbad (after m b) (column + 1) line) (is_bad m b) e
  where
    go : (is_clean (after m b) line ≡ true → first_bad (after m b) (column + 1) line ≡ None) → (d : Bool)
        → (if d then false else is_clean (after m b) line) ≡ true → (if d then Some column else first_bad (after m b) (column + 1) line) ≡ None
    go h true e = absurd cc
    go h false e = h e

-- nothing is left of a blank line
pub blank_spells : (column : ℕ) (line : List ℕ) → first_written column line ≡ None → kept_bytes Code line ≡ []
unfolding first_written kept_bytes
blank_spells column [] e = refl
blank_spells column (b ∷ line) e = go (blank_spells (column + 1) line) (b == 32) refl
  where
    go : (first_written (column + 1) line ≡ None → kept_bytes Code line ≡ []) → (same : Bool) → (b == 32) ≡ same → kept_bytes Code (b ∷ line) ≡ []
    go rest true is = rw is (rest (rw is at e))
    go rest false is = let no_match : Some column ≡ None = rw is at e in absurd cc

not_nothing : (b : ℕ) (bs : List ℕ) → b ∷ bs ≡ [] → ⊥
not_nothing b bs e = cc

-- a line of which nothing is left is blank
pub spells_blank : (column : ℕ) (line : List ℕ) → kept_bytes Code line ≡ [] → first_written column line ≡ None
unfolding first_written kept_bytes
spells_blank column [] e = refl
spells_blank column (b ∷ line) e = go (spells_blank (column + 1) line) (b == 32) refl
  where
    go : (kept_bytes Code line ≡ [] → first_written (column + 1) line ≡ None) → (same : Bool) → (b == 32) ≡ same → first_written column (b ∷ line) ≡ None
    go rest true is = rw is (rest (rw is at e))
    go rest false is = absurd (not_nothing _ _ (rw is at e))

-- ── the number at the front ──
-- a text does not begin with a digit
abbrev pub BeginsWithNoDigit : List ℕ → Type 0
BeginsWithNoDigit [] = Unit {0}
BeginsWithNoDigit (b ∷ text) = is_digit b ≡ false

-- a number that is read is spelled by digits, and what is left follows them
record IsSpelled (n : ℕ) (placed : List Placed) : Type 0 where
  pub digits : List ℕ
  pub are_digits : All IsDigit digits
  pub left : bytes placed ≡ digits ++ bytes (number_at n placed).rest
  pub value : value_after n digits ≡ (number_at n placed).value

number_spelled : (n : ℕ) (placed : List Placed) → IsSpelled n placed
unfolding number_at
number_spelled n [] = record { digits = []; are_digits = All-nil IsDigit; left = refl; value = refl }
number_spelled n (p ∷ placed) = go (number_spelled (10 * n + (p.byte - 48)) placed) (is_digit p.byte) refl
  where
    go : IsSpelled (10 * n + (p.byte - 48)) placed → (d : Bool) → is_digit p.byte ≡ d → IsSpelled n (p ∷ placed)
    go more true is =
        record {
          digits = p.byte ∷ more.digits;
          are_digits = All-cons IsDigit p.byte more.digits (digit_is p.byte is) more.are_digits;
          left = rw is (ap (λ (bs : List ℕ). p.byte ∷ bs) more.left);
          value = rw is more.value;
        }
    go more false is = record { digits = []; are_digits = All-nil IsDigit; left = rw is refl; value = rw is refl }

is_digit_true : (b : ℕ) → IsDigit b → is_digit b ≡ true
is_digit_true b h = grind (arith, nat_tests)

-- digits that no digit follows are read as a number
record IsRead (n : ℕ) (placed : List Placed) (digits text : List ℕ) : Type 0 where
  pub value : (number_at n placed).value ≡ value_after n digits
  pub rest : bytes (number_at n placed).rest ≡ text

number_read : (n : ℕ) (placed : List Placed) (digits text : List ℕ) → bytes placed ≡ digits ++ text → All IsDigit digits → BeginsWithNoDigit text
    → IsRead n placed digits text
unfolding number_at
number_read n [] [] text e all begins = record { value = refl; rest = e }
number_read n [] (d ∷ digits) text e all begins = absurd cc
number_read n (p ∷ placed) [] text e all begins =
    let stops : is_digit p.byte ≡ false = subst BeginsWithNoDigit (sym e) begins in
    record { value = rw stops refl; rest = rw stops e }
number_read n (p ∷ placed) (d ∷ digits) text e all begins =
    let same : p.byte ≡ d = ap (λ bs. first_of bs) e in
    let others : bytes placed ≡ digits ++ text = ap (λ bs. drop 1 bs) e in
    let is : is_digit p.byte ≡ true = rw same (is_digit_true d (All-head IsDigit d digits all)) in
    let more = number_read (10 * n + (p.byte - 48)) placed digits text others (All-tail IsDigit d digits all) begins in
    record { value = rw is (more.value ∙ ap (λ x. value_after (10 * n + (x - 48)) digits) same); rest = rw is more.rest }
  where
    first_of : List ℕ → ℕ
    first_of [] = 0
    first_of (b ∷ bs) = b

no_digit : (b : ℕ) → IsLetter b → is_digit b ≡ false
no_digit b h = grind (arith, nat_tests)

-- a statement begins with a letter
statement_begins : {text : List ℕ} {s : Statement} {large : Option ℕ} → States text s large → BeginsWithNoDigit text × (text ≢ [])
statement_begins (let_assign v text e large h k) = (refl, λ e. cc)
statement_begins (assign v text e large h k) = (no_digit v h, λ e. cc)
statement_begins (print text items ends_line large h) = (refl, λ e. cc)
statement_begins (short_print text items ends_line large h) = (refl, λ e. cc)
statement_begins (input text letters h) = (refl, λ e. cc)
statement_begins (conditional text a la rest rel middle b lb after body s ls h k l m n) = (refl, λ e. cc)
statement_begins (goto text e large h) = (refl, λ e. cc)
statement_begins (gosub text e large h) = (refl, λ e. cc)
statement_begins return = (refl, λ e. cc)
statement_begins ends = (refl, λ e. cc)
statement_begins (remark any) = (refl, λ e. cc)

-- ── a line ──
-- nothing is squeezed to more than it was
squeezed_short : (m : Mode) (column : ℕ) (line : List ℕ) → length (squeezed_from m column line) ≤ length line
unfolding squeezed_from
squeezed_short m column [] = omega arith
squeezed_short m column (b ∷ line) = go (squeezed_short (after m b) (column + 1) line) (is_dropped m b)
  where
    go : length (squeezed_from (after m b) (column + 1) line) ≤ length line → (d : Bool)
        → length (if d then squeezed_from (after m b) (column + 1) line else record { byte = shown m b; column = column; in_code = is_in_code m } ∷ squeezed_from (after m b) (column + 1) line)
        ≤ length (b ∷ line)
    go h true = omega (arith, h)
    go h false = omega (arith, h)

-- a numbered line is one in either form
numbered : (line : List ℕ) (number : ℕ) (text : List Placed) → IsNumberedIn Plain line number text → IsNumbered line number (bytes text)
numbered line number text n =
    let s = number_spelled 0 (squeezed line) in
    record {
      short = n.fit.short;
      clean = cleaned Code 1 line n.fit.clean;
      digits = s.digits;
      are_digits = s.are_digits;
      left = sym (spells Code 1 line) ∙ s.left ∙ ap (λ rest. s.digits ++ bytes rest) n.rest;
      value = s.value ∙ n.value;
      in_range = n.in_range;
    }

numbered_back : (line : List ℕ) (number : ℕ) (text : List ℕ) → IsNumbered line number text → BeginsWithNoDigit text
    → (placed : List Placed) × IsNumberedIn Plain line number placed × (bytes placed ≡ text)
numbered_back line number text n begins =
    let r = number_read 0 (squeezed line) n.digits text (spells Code 1 line ∙ n.left) n.are_digits begins in (
      (number_at 0 (squeezed line)).rest,
      record {
        fit = record { short = n.short; clean = unbad Code 1 line n.clean; brief = omega (arith, squeezed_short Code 1 line, n.short) };
        value = r.value ∙ n.value;
        rest = refl;
        in_range = n.in_range;
      },
      r.rest,
    )

-- what is read as a statement is spelled by the bytes
StatementIsGood : List Placed → Result Statement Refusal → Type 0
StatementIsGood text (Ok s) = States (bytes text) s None
StatementIsGood text (Err r) = Unit {0}

statement_good : {text : List Placed} {said : Result Statement Refusal} → TextIs Statement States text said → StatementIsGood text said
unfolding StatementIsGood
statement_good (reads s h) = h
statement_good (not_compiled column n l) = tt
statement_good (syntax n l) = tt
statement_good (number_too_large s left h) = tt

-- a line that is not refused is good
LineIsGood : Program → List ℕ → Result Edit Refusal → Type 0
LineIsGood p line (Ok edit) = LineMakes p line (edited edit p)
LineIsGood p line (Err r) = Unit {0}

line_good : (p : Program) (line : List ℕ) (said : Result Edit Refusal) → LineIn Plain line said → LineIsGood p line said
unfolding LineIsGood StatementIsGood
line_good p line _ (blank e) = programs.blank (blank_spells 1 line e)
line_good p line _ (unfit first r e u) = tt
line_good p line _ (unnumbered first e fit d) = tt
line_good p line _ (bad_line_number first e fit d n) = tt
line_good p line _ (deletes number n) = programs.deletes number (numbered line number [] n)
line_good p line _ (sets number text c n some t) =
    programs.sets number (bytes text) c (numbered line number text n) (statement_good t)
line_good p line _ (unread number text r n some t) = tt

-- what a good line does is not refused
record IsReadAs (p : Program) (line : List ℕ) (q : Program) : Type 0 where
  pub edit : Edit
  pub read : LineIn Plain line (Ok edit)
  pub makes : edited edit p ≡ q

no_bytes : (placed : List Placed) → bytes placed ≡ [] → placed ≡ []
no_bytes [] e = refl
no_bytes (p ∷ placed) e = absurd cc

line_read : (p q : Program) (line : List ℕ) → LineMakes p line q → IsReadAs p line q
line_read p _ line (programs.blank left) = record { edit = Nothing; read = blank (spells_blank 1 line left); makes = refl }
line_read p _ line (programs.deletes number n) =
    let back = numbered_back line number [] n tt in
    record { edit = Deletes number; read = deletes number (subst (IsNumberedIn Plain line number) (no_bytes back.0 back.2) back.1); makes = refl }
line_read p _ line (programs.sets number text c n t) =
    let begins = statement_begins t in
    let back = numbered_back line number text n begins.0 in
    let stated : States (bytes back.0) c None = rw (back.2) t in
    record {
      edit = Sets number c;
      read = sets number back.0 c back.1 (λ left. begins.1 (sym back.2 ∙ ap bytes left)) (reads c stated);
      makes = refl;
    }

-- ── a file ──
-- a file that is not refused is good
FileIsGood : Program → List (List ℕ) → Outcome → Type 0
FileIsGood p lines (Ok q) = AllMake p lines q × (1 ≤ length q)
FileIsGood p lines (Err r) = Unit {0}

end_good : (p : Program) → FileIsGood p [] (at_end p)
unfolding FileIsGood
end_good [] = tt
end_good (line ∷ lines) = (none (line ∷ lines), omega arith)

more_good : (p q : Program) (line : List ℕ) (lines : List (List ℕ)) (outcome : Outcome) → LineMakes p line q → FileIsGood q lines outcome → FileIsGood p (line ∷ lines) outcome
unfolding FileIsGood
more_good p q line lines (Ok r) h more = (programs.more p q r line lines h more.0, more.1)
more_good p q line lines (Err r) h more = tt

file_good : (n : ℕ) (p : Program) (lines : List (List ℕ)) (outcome : Outcome) → LinesIn Plain n p lines outcome → FileIsGood p lines outcome
unfolding FileIsGood LineIsGood
file_good _ _ _ _ (end n p) = end_good p
file_good _ _ _ _ (bad n p line lines r h) = tt
file_good _ _ _ _ (good n p line lines edit outcome h more) =
    more_good p (edited edit p) line lines outcome (line_good p line (Ok edit) h) (file_good (n + 1) (edited edit p) lines outcome more)

file_read : (n : ℕ) (p q : Program) (lines : List (List ℕ)) → AllMake p lines q → 1 ≤ length q → LinesIn Plain n p lines (Ok q)
file_read n _ _ _ (none []) some = absurd (omega (arith, some))
file_read n _ _ _ (none (line ∷ lines)) some = end n (line ∷ lines)
file_read n _ _ _ (programs.more p r q line lines h others) some =
    let read = line_read p r line h in
    good n p line lines read.edit (Ok q) read.read (rw (read.makes) (file_read (n + 1) r q lines others some))

-- a source that makes a program in the notation without signs is a good one, and the other way round
pub program_of : (source : List ℕ) (program : Program) → LinesIn Plain 1 [] (lines_of_file source) (Ok program) → IsProgramOf source program
unfolding FileIsGood
program_of source program h = file_good 1 [] (lines_of_file source) (Ok program) h

pub makes_program : (source : List ℕ) (program : Program) → IsProgramOf source program → LinesIn Plain 1 [] (lines_of_file source) (Ok program)
makes_program source program h = file_read 1 [] program (lines_of_file source) h.0 h.1
