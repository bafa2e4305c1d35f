-- No text, line or file has two meanings.
use Rattle.std.proofs.Common.{◌≡◌, ◌≢◌, ℕ, ◌+◌, ◌<◌, ◌≤◌, Bool, true, false, List, [], ◌∷◌, length, Option, Some, None}
use Rattle.std.proofs.Common.{Result, Ok, Err, refl, sym, ap, ◌∙◌, arith, ◌⊎◌, inl, inr, if◌then◌else◌, nat_le, ◌&&◌}
use Rattle.std.proofs.lemmas.Bool.Decides.{nat_tests}
use Rattle.tb_basic_syntax.specs.Source.{Statement, Expression, Program}
use Rattle.tb_basic_grammar.specs.Statements.{States}
use Rattle.tb_basic_grammar.proofs.ExpressionLaws as expression_laws
use Rattle.tb_basic_grammar.proofs.StatementLaws as statement_laws
use Rattle.tb_basic_grammar.specs.Reading.{when}
use Rattle.tb_parser.proofs.Numbers.{number_has_digit, blank_squeezed}
use Rattle.tb_parser.proofs.SignSteps.{blank_signed}
use Rattle.tb_parser.specs.declared.errors.SourceErrorKind.TheVariants.{LineTooLong, BadByte, Unnumbered, BadLineNumber, NotCompiled, NumberTooLarge}
use Rattle.tb_basic_text.specs.declared.notation.Notation.{Notation}
use Rattle.tb_basic_text.specs.declared.notation.Notation.TheVariants.{Plain, Signs}
use Rattle.tb_parser.specs.declared.squeeze.Placed.{Placed}
use Rattle.tb_parser.specs.Readings.{Refusal, at_column, Grammar, TextIs, reads, not_compiled, syntax, number_too_large, IsFitIn, IsUnfitIn, line_too_long}
use Rattle.tb_parser.specs.Readings.{bad_byte, stands_for_too_much, IsLineNumber, IsNumberedIn, Edit, Nothing, Sets, Deletes, LineIn, blank, unfit, unnumbered, bad_line_number}
use Rattle.tb_parser.specs.Readings.{deletes, sets, unread, Expresses, ExpressionIs, unfit_text, fit_text}
use Rattle.tb_parser.specs.Notations.{column_of, first_bad_in, squeezed_in}
use Rattle.tb_parser.specs.Scans.{first_written, starts_with_digit, number_at, left_out_word, column_left}
use Rattle.tb_parser.specs.Squeezed.{squeezed, bytes}
use Rattle.tb_parser.specs.Files.{Outcome, refused_at, edited, LinesIn, end, bad, good}

abbrev pub IsUnique : {A : Type 0} → Grammar A → Type 0
IsUnique {A} grammar = (t : List ℕ) (a b : A) (la lb : Option ℕ) → grammar t a la → grammar t b lb → (a ≡ b) × (la ≡ lb)

none_some : (n : ℕ) (o : Option ℕ) → o ≡ None → o ≡ Some n → ⊥
none_some n o e f = let no_match : None ≡ Some n = sym e ∙ f in cc

some_same : (m n : ℕ) (o : Option ℕ) → o ≡ Some m → o ≡ Some n → m ≡ n
some_same m n o e f = let both : Some m ≡ Some n = sym e ∙ f in cc

module _ {A : Type 0} (grammar : Grammar A) (unique : IsUnique grammar) (text : List Placed) where
  -- a text has one outcome
  pub text_one : {x y : Result A Refusal} → TextIs A grammar text x → TextIs A grammar text y → x ≡ y
  text_one (reads a h) (reads b k) = ap (λ (v : A). Ok v) (unique (bytes text) a b None None h k).0
  text_one (reads a h) (not_compiled c n e) = absurd (n a None h)
  text_one (reads a h) (syntax n e) = absurd (n a None h)
  text_one (reads a h) (number_too_large b l k) = absurd (none_some l None refl (unique (bytes text) a b None (Some l) h k).1)
  text_one (not_compiled c n e) (reads b k) = absurd (n b None k)
  text_one (not_compiled c n e) (not_compiled d m f) = ap (λ (v : ℕ). Err (at_column NotCompiled v)) (some_same c d (left_out_word text) e f)
  text_one (not_compiled c n e) (syntax m f) = absurd (none_some c (left_out_word text) f e)
  text_one (not_compiled c n e) (number_too_large b l k) = absurd (n b (Some l) k)
  text_one (syntax n e) (reads b k) = absurd (n b None k)
  text_one (syntax n e) (not_compiled d m f) = absurd (none_some d (left_out_word text) e f)
  text_one (syntax n e) (syntax m f) = refl
  text_one (syntax n e) (number_too_large b l k) = absurd (n b (Some l) k)
  text_one (number_too_large a l h) (reads b k) = absurd (none_some l None refl (unique (bytes text) b a None (Some l) k h).1)
  text_one (number_too_large a l h) (not_compiled d m f) = absurd (m a (Some l) h)
  text_one (number_too_large a l h) (syntax m f) = absurd (m a (Some l) h)
  text_one (number_too_large a l h) (number_too_large b k g) =
      ap (λ (v : ℕ). Err (at_column NumberTooLarge (column_left v text))) (some_same l k (Some l) refl (unique (bytes text) a b (Some l) (Some k) h g).1)

-- a line is unfit for one reason
pub unfit_one : {notation : Notation} {line : List ℕ} {r s : Refusal} → IsUnfitIn notation line r → IsUnfitIn notation line s → r ≡ s
unfit_one (line_too_long h) (line_too_long k) = refl
unfit_one (line_too_long h) (bad_byte d short f) = absurd (omega arith)
unfit_one (line_too_long h) (stands_for_too_much short f over) = absurd (omega arith)
unfit_one (bad_byte c short e) (line_too_long k) = absurd (omega arith)
unfit_one {notation} {line} (bad_byte c short e) (bad_byte d again f) = ap (λ (v : ℕ). at_column BadByte v) (some_same c d (first_bad_in notation line) e f)
unfit_one {notation} {line} (bad_byte c short e) (stands_for_too_much again f over) = absurd (none_some c (first_bad_in notation line) f e)
unfit_one (stands_for_too_much short e over) (line_too_long k) = absurd (omega arith)
unfit_one {notation} {line} (stands_for_too_much short e over) (bad_byte d again f) = absurd (none_some d (first_bad_in notation line) e f)
unfit_one (stands_for_too_much short e over) (stands_for_too_much again f more) = refl

-- a fit line is not unfit
pub fit_unfit : {notation : Notation} {line : List ℕ} {r : Refusal} → IsFitIn notation line → IsUnfitIn notation line r → ⊥
fit_unfit fit (line_too_long h) = omega (arith, fit.short)
fit_unfit {notation} {line} fit (bad_byte c short e) = none_some c (first_bad_in notation line) fit.clean e
fit_unfit fit (stands_for_too_much short e over) = omega (arith, fit.brief, over)

-- a line has one outcome as an expression
pub expression_one : (line : List ℕ) (x y : Result Expression Refusal) → ExpressionIs line x → ExpressionIs line y → x ≡ y
expression_one line _ _ (unfit_text r h) (unfit_text s k) = ap (λ (v : Refusal). Err v) (unfit_one h k)
expression_one line _ _ (unfit_text r h) (fit_text y fit k) = absurd (fit_unfit fit h)
expression_one line _ _ (fit_text x fit h) (unfit_text s k) = absurd (fit_unfit fit k)
expression_one line _ _ (fit_text x fit h) (fit_text y again k) = text_one Expresses expression_laws.unique (squeezed line) h k

-- how far a line is judged before the statement after its number is read
data Judged : Type 0 where
  Decided : Result Edit Refusal → Judged
  HasStatement : (number : ℕ) (text : List Placed) → Judged

behind_number : ℕ → List Placed → Judged
behind_number number [] = Decided (Ok (Deletes number))
behind_number number (p ∷ text) = HasStatement number (p ∷ text)

numbered_line : ℕ → List Placed → Judged
numbered_line first placed =
    if starts_with_digit placed then
    (let n = number_at 0 placed in if nat_le 1 n.value && nat_le n.value 32767 then behind_number n.value n.rest else Decided (Err (at_column BadLineNumber first)))
    else Decided (Err (at_column Unnumbered first))

brief_line : ℕ → List Placed → Judged
brief_line first placed = if nat_le (length placed) 255 then numbered_line first placed else Decided (Err (at_column LineTooLong (column_of 255 placed)))

judged : Notation → List ℕ → Judged
judged notation line =
    when (first_written 1 line) (Decided (Ok Nothing)) (λ first.
    if nat_le (length line) 255 then when (first_bad_in notation line) (brief_line first (squeezed_in notation line)) (λ column. Decided (Err (at_column BadByte column)))
    else Decided (Err (at_column LineTooLong 256)))

-- what a statement does at a line number
at_number : ℕ → Result Statement Refusal → Result Edit Refusal
at_number number (Ok c) = Ok (Sets number c)
at_number number (Err r) = Err r

record Reads (notation : Notation) (line : List ℕ) (m : Result Edit Refusal) : Type 0 where
  number : ℕ
  text : List Placed
  is_judged : judged notation line ≡ HasStatement number text
  said : Result Statement Refusal
  reading : TextIs Statement States text said
  meaning : m ≡ at_number number said

low_enough : (a b : ℕ) → a ≤ b → nat_le a b ≡ true
low_enough a b h = grind (arith, nat_tests)

too_high : (a b : ℕ) → b < a → nat_le a b ≡ false
too_high a b h = grind (arith, nat_tests)

no_number : (n : ℕ) → (IsLineNumber n → ⊥) → (nat_le 1 n && nat_le n 32767) ≡ false
no_number n h = go (nat_le 1 n) (nat_le n 32767) refl refl
  where
    go : (low high : Bool) → nat_le 1 n ≡ low → nat_le n 32767 ≡ high → (low && high) ≡ false
    go true true e f = absurd (h (grind (arith, nat_tests), grind (arith, nat_tests)))
    go true false e f = refl
    go false high e f = refl

-- nothing is left of a blank line
blank_in : (notation : Notation) (line : List ℕ) → first_written 1 line ≡ None → squeezed_in notation line ≡ []
blank_in Plain line e = blank_squeezed 1 line e
blank_in Signs line e = blank_signed 1 line e

-- a numbered line isn't blank
number_written : (notation : Notation) (line : List ℕ) → 1 ≤ (number_at 0 (squeezed_in notation line)).value → (first : ℕ) × (first_written 1 line ≡ Some first)
unfolding number_at
number_written notation line low = go (first_written 1 line) refl
  where
    go : (o : Option ℕ) → first_written 1 line ≡ o → (first : ℕ) × (first_written 1 line ≡ Some first)
    go None e = let zero : 1 ≤ 0 = rw (blank_in notation line e) at low in absurd (omega (arith, zero))
    go (Some first) e = (first, e)

judged_number : (notation : Notation) (line : List ℕ) (number : ℕ) (text : List Placed) → IsNumberedIn notation line number text
    → judged notation line ≡ behind_number number text
unfolding judged brief_line numbered_line
judged_number notation line number text n =
    let low : 1 ≤ (number_at 0 (squeezed_in notation line)).value = rw (n.value) n.in_range.0 in
    let written = number_written notation line low in
    rw (
      written.1,
      low_enough (length line) 255 n.fit.short,
      n.fit.clean,
      low_enough (length (squeezed_in notation line)) 255 n.fit.brief,
      number_has_digit (squeezed_in notation line) low,
      n.value,
      n.rest,
      low_enough 1 number n.in_range.0,
      low_enough number 32767 n.in_range.1,
    ) refl

statement_behind : (number : ℕ) (text : List Placed) → text ≢ [] → behind_number number text ≡ HasStatement number text
unfolding behind_number
statement_behind number [] some = absurd (some refl)
statement_behind number (p ∷ text) some = refl

judged_as : (notation : Notation) (line : List ℕ) (m : Result Edit Refusal) → LineIn notation line m → (judged notation line ≡ Decided m) ⊎ Reads notation line m
unfolding judged brief_line numbered_line behind_number at_number
judged_as notation line _ (blank e) = inl (rw e refl)
judged_as notation line _ (unfit first _ e (line_too_long h)) = inl (rw (e, too_high (length line) 255 h) refl)
judged_as notation line _ (unfit first _ e (bad_byte column short f)) = inl (rw (e, low_enough (length line) 255 short, f) refl)
judged_as notation line _ (unfit first _ e (stands_for_too_much short f over)) =
    inl (rw (e, low_enough (length line) 255 short, f, too_high (length (squeezed_in notation line)) 255 over) refl)
judged_as notation line _ (unnumbered first e fit d) =
    inl (rw (e, low_enough (length line) 255 fit.short, fit.clean, low_enough (length (squeezed_in notation line)) 255 fit.brief, d) refl)
judged_as notation line _ (bad_line_number first e fit d n) =
    inl (rw (
      e,
      low_enough (length line) 255 fit.short,
      fit.clean,
      low_enough (length (squeezed_in notation line)) 255 fit.brief,
      d,
      no_number (number_at 0 (squeezed_in notation line)).value n,
    ) refl)
judged_as notation line _ (deletes number n) = inl (judged_number notation line number [] n)
judged_as notation line _ (sets number text c n some t) = inr (record {
  number = number;
  text = text;
  is_judged = judged_number notation line number text n
      ∙ statement_behind number text some;
  said = Ok c;
  reading = t;
  meaning = refl;
})
judged_as notation line _ (unread number text r n some t) = inr (record {
  number = number;
  text = text;
  is_judged = judged_number notation line number text n
      ∙ statement_behind number text some;
  said = Err r;
  reading = t;
  meaning = refl;
})

decided_in : Result Edit Refusal → Judged → Result Edit Refusal
decided_in m (Decided d) = d
decided_in m (HasStatement number text) = m

number_in : Judged → ℕ
number_in (Decided d) = 0
number_in (HasStatement number text) = number

text_in : Judged → List Placed
text_in (Decided d) = []
text_in (HasStatement number text) = text

apart : (j : Judged) (d : Result Edit Refusal) (number : ℕ) (text : List Placed) → j ≡ Decided d → j ≡ HasStatement number text → ⊥
apart j d number text e f = let no_match : Decided d ≡ HasStatement number text = sym e ∙ f in cc

read_one : {notation : Notation} {line : List ℕ} {m k : Result Edit Refusal} → Reads notation line m → Reads notation line k → m ≡ k
unfolding number_in text_in
read_one a b =
    let same = sym a.is_judged ∙ b.is_judged in
    let number : a.number ≡ b.number = ap (λ (j : Judged). number_in j) same in
    let text : a.text ≡ b.text = ap (λ (j : Judged). text_in j) same in
    let said : a.said ≡ b.said = text_one States statement_laws.unique b.text (rw text at a.reading) b.reading in
    a.meaning ∙ rw (number, said) refl ∙ sym b.meaning

-- a line has one outcome
pub line_one : {notation : Notation} (line : List ℕ) (m k : Result Edit Refusal) → LineIn notation line m → LineIn notation line k → m ≡ k
unfolding decided_in
line_one {notation} line m k h g = go (judged_as notation line m h) (judged_as notation line k g)
  where
    go : (judged notation line ≡ Decided m) ⊎ Reads notation line m → (judged notation line ≡ Decided k) ⊎ Reads notation line k → m ≡ k
    go (inl e) (inl f) = ap (λ (j : Judged). decided_in m j) (sym e ∙ f)
    go (inl e) (inr b) = absurd (apart (judged notation line) m b.number b.text e b.is_judged)
    go (inr a) (inl f) = absurd (apart (judged notation line) k a.number a.text f a.is_judged)
    go (inr a) (inr b) = read_one a b

-- `Ok` is no `Err`
pub ok_err : {A B : Type 0} (a : A) (b : B) → Ok a ≡ Err b → ⊥
ok_err a b e = cc

-- `Ok` has one value
pub ok_same : {A B : Type 0} (a b : A) → ◌≡◌ {A = Result A B} (Ok a) (Ok b) → a ≡ b
ok_same a b e = cc

-- `Err` has one value
pub err_same : {A B : Type 0} (a b : B) → ◌≡◌ {A = Result A B} (Err a) (Err b) → a ≡ b
err_same a b e = cc

-- lines have one outcome
pub lines_one : {notation : Notation} (n : ℕ) (p : Program) (lines : List (List ℕ)) (x y : Outcome) → LinesIn notation n p lines x → LinesIn notation n p lines y → x ≡ y
lines_one n p _ _ _ (end _ _) (end _ _) = refl
lines_one n p _ _ _ (bad _ _ line lines r h) (bad _ _ _ _ s k) = ap (λ (v : Refusal). Err (refused_at n v)) (err_same r s (line_one line (Err r) (Err s) h k))
lines_one n p _ _ _ (bad _ _ line lines r h) (good _ _ _ _ e y k more) = absurd (ok_err e r (line_one line (Ok e) (Err r) k h))
lines_one n p _ _ _ (good _ _ line lines e x h rest) (bad _ _ _ _ s k) = absurd (ok_err e s (line_one line (Ok e) (Err s) h k))
lines_one n p _ _ _ (good _ _ line lines e x h rest) (good _ _ _ _ f y k more) =
    let same : f ≡ e = ok_same f e (line_one line (Ok f) (Ok e) k h) in
    lines_one (n + 1) (edited e p) lines x y rest (rw same at more)
