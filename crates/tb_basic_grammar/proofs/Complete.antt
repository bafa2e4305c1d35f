-- What is in the grammar is read.
use Rattle.std.proofs.Common.{◌≡◌, ◌≢◌, ℕ, zero, suc, ◌+◌, ◌-◌, ◌*◌, ◌<◌, ◌≤◌, true, false, List, [], ◌∷◌, ◌++◌}
use Rattle.std.proofs.Common.{inl, inr, length, Option, Some, None, refl, sym, ap, subst, ◌∙◌, arith, ◌==◌, length-append}
use Rattle.std.specs.Option.{option_or}
use Rattle.std.proofs.lemmas.Bool.{eqb-true, cases_Bool, ne_eqb}
use Rattle.std.proofs.lemmas.Bool.Decides.{nat_tests}
use Rattle.std.specs.Prelude.{All, codes}
use Rattle.std.proofs.lemmas.List.Elements.{All-head, All-tail}
use Rattle.tb_basic_syntax.specs.declared.expressions.Operator.{Operator}
use Rattle.tb_basic_syntax.specs.Source.{Expression, Number, Variable, Binary, Random}
use Rattle.tb_basic_grammar.specs.Grammar.{IsDigit, IsLetter, value_after, word_of, large_at, Part, Whole, Term, Factor, operator, Reads, number, variable, random}
use Rattle.tb_basic_grammar.specs.Grammar.{parentheses, factor, product, term, plus, minus, sum}
use Rattle.tb_basic_grammar.specs.Reading.{◌>>=◌, Found, digits_at, literal_at, behind, behind_word, closed, negated, variable_at, group_by}
use Rattle.tb_basic_grammar.specs.Grammar.{is_digit, is_letter}
use Rattle.tb_basic_grammar.specs.Reading.{starts_digit, factor_by, operator_at, more, term_by, signed_by, whole_by, whole_at, factor_at, term_at, front_of}
use Rattle.tb_basic_grammar.proofs.Steps.{chosen}

-- A part takes at least one byte.
pub shorter : {part : Part} {text : List ℕ} {e : Expression} {large : Option ℕ} {rest : List ℕ} → Reads part text e large rest → length rest < length text
shorter (number text d digits rest h ds) = omega (arith, ap length h, length-append digits rest)
shorter (variable v rest h) = omega arith
shorter (random text e large rest r) = let s = shorter r in omega arith
shorter (parentheses text e large rest r) = let s = shorter r in omega arith
shorter (factor text e large rest r) = shorter r
shorter (product text a b la lb sign op middle rest r h q) = let s = shorter r in let t = shorter q in omega arith
shorter (term text e large rest r) = shorter r
shorter (plus text e large rest r) = let s = shorter r in omega arith
shorter (minus text e large rest r) = let s = shorter r in omega arith
shorter (sum text a b la lb sign op middle rest r h q) = let s = shorter r in let t = shorter q in omega arith

-- what may follow a factor: neither a digit nor the rest of RND
pub record Ends (rest : List ℕ) : Type 0 where
  pub no_digit : starts_digit rest ≡ false
  pub no_random : behind_word (codes "ND") rest ≡ None

-- an operator may follow a factor
pub operator_ends : (part : Part) (sign : ℕ) (op : Operator) (rest : List ℕ) → operator part sign ≡ Some op → Ends (sign ∷ rest)
operator_ends Factor sign op rest e = absurd cc
operator_ends Term sign op rest e =
    elim (chosen (sign == 42) _ _ (Some op) e) [
      | inl h ↦ subst (λ (b : ℕ). Ends (b ∷ rest)) (sym (eqb-true sign 42 h.0)) (record { no_digit = refl; no_random = refl })
      | inr h ↦ elim (chosen (sign == 47) _ _ (Some op) h.1) [
        | inl g ↦ subst (λ (b : ℕ). Ends (b ∷ rest)) (sym (eqb-true sign 47 g.0)) (record { no_digit = refl; no_random = refl })
        | inr g ↦ let e' = g.1 in absurd cc
      ]
    ]
operator_ends Whole sign op rest e =
    elim (chosen (sign == 43) _ _ (Some op) e) [
      | inl h ↦ subst (λ (b : ℕ). Ends (b ∷ rest)) (sym (eqb-true sign 43 h.0)) (record { no_digit = refl; no_random = refl })
      | inr h ↦ elim (chosen (sign == 45) _ _ (Some op) h.1) [
        | inl g ↦ subst (λ (b : ℕ). Ends (b ∷ rest)) (sym (eqb-true sign 45 g.0)) (record { no_digit = refl; no_random = refl })
        | inr g ↦ let e' = g.1 in absurd cc
      ]
    ]

-- the operators of one part are not those of the other
sign_no_term : (sign : ℕ) (op : Operator) (rest : List ℕ) → operator Whole sign ≡ Some op → operator_at Term (sign ∷ rest) ≡ None
sign_no_term sign op rest e =
    elim (chosen (sign == 43) _ _ (Some op) e) [
      | inl h ↦ subst (λ (b : ℕ). operator_at Term (b ∷ rest) ≡ None) (sym (eqb-true sign 43 h.0)) refl
      | inr h ↦ elim (chosen (sign == 45) _ _ (Some op) h.1) [
        | inl g ↦ subst (λ (b : ℕ). operator_at Term (b ∷ rest) ≡ None) (sym (eqb-true sign 45 g.0)) refl
        | inr g ↦ let e' = g.1 in absurd cc
      ]
    ]

is_digit_true : (b : ℕ) → IsDigit b → is_digit b ≡ true
is_digit_true b h = grind (arith, nat_tests)

-- a letter passes the reader's test
pub is_letter_true : (b : ℕ) → IsLetter b → is_letter b ≡ true
is_letter_true b h = grind (arith, nat_tests)

-- a letter is no digit
pub letter_no_digit : (b : ℕ) → IsLetter b → is_digit b ≡ false
letter_no_digit b h = grind (arith, nat_tests)

-- the digits at the front of a text are read if no digit follows them
digits_read : (n : ℕ) (digits rest : List ℕ) → All IsDigit digits → starts_digit rest ≡ false → digits_at n (digits ++ rest) ≡ (value_after n digits, rest)
digits_read n [] [] h e = refl
digits_read n [] (b ∷ rest) h e = rw e refl
digits_read n (d ∷ digits) rest h e = rw (is_digit_true d (All-head IsDigit d digits h)) (digits_read (10 * n + (d - 48)) digits rest (All-tail IsDigit d digits h) e)

number_read : (whole : List ℕ → Option Found) (d : ℕ) (digits rest : List ℕ) → All IsDigit (d ∷ digits) → starts_digit rest ≡ false
    → factor_by whole (d ∷ digits ++ rest) ≡ Some (record {
      tree = Number (word_of (value_after 0 (d ∷ digits)));
      large = large_at (value_after 0 (d ∷ digits)) (length (d ∷ digits ++ rest));
      rest = rest;
    })
unfolding factor_by literal_at
number_read whole d digits rest h e =
    rw (is_digit_true d (All-head IsDigit d digits h), digits_read (10 * 0 + (d - 48)) digits rest (All-tail IsDigit d digits h) e) refl

abbrev VariableRead : (List ℕ → Option Found) → List ℕ → ℕ → Type 0
VariableRead whole rest v = factor_by whole (v ∷ rest) ≡ Some (record { tree = Variable (v - 65); large = None; rest = rest })

random_letter_read : (whole : List ℕ → Option Found) (rest : List ℕ) → Ends rest → VariableRead whole rest 82
unfolding factor_by variable_at
random_letter_read whole rest ends = rw ends.no_random refl

variable_read : (whole : List ℕ → Option Found) (v : ℕ) (rest : List ℕ) → IsLetter v → Ends rest → VariableRead whole rest v
unfolding factor_by variable_at
variable_read whole v rest h ends =
    elim (cases_Bool (v == 82)) [
      | inl r ↦ subst (VariableRead whole rest) (sym (eqb-true v 82 r)) (random_letter_read whole rest ends)
      | inr r ↦ rw (letter_no_digit v h, r, ne_eqb v 40 (omega arith), is_letter_true v h) refl
    ]

-- no sign begins a term
unsigned : {part : Part} {text : List ℕ} {e : Expression} {large : Option ℕ} {rest : List ℕ} → Reads part text e large rest → part ≢ Whole
    → (behind 43 text ≡ None) × (behind 45 text ≡ None)
unsigned (number text d digits rest h ds) ne = let first = All-head IsDigit d digits ds in rw h (rw (ne_eqb d 43 (omega arith), ne_eqb d 45 (omega arith)) (refl, refl))
unsigned (variable v rest h) ne = rw (ne_eqb v 43 (omega arith), ne_eqb v 45 (omega arith)) (refl, refl)
unsigned (random text e large rest r) ne = (refl, refl)
unsigned (parentheses text e large rest r) ne = (refl, refl)
unsigned (factor text e large rest r) ne = unsigned r (λ h. cc)
unsigned (product text a b la lb sign op middle rest r h q) ne = unsigned r (λ h. cc)
unsigned (term text e large rest r) ne = absurd (ne refl)
unsigned (plus text e large rest r) ne = absurd (ne refl)
unsigned (minus text e large rest r) ne = absurd (ne refl)
unsigned (sum text a b la lb sign op middle rest r h q) ne = absurd (ne refl)

-- no more operands are read if none follows
more_ends : (part : Part) (operand : List ℕ → Option Found) (k : ℕ) (f : Found) → operator_at part f.rest ≡ None → more part operand k f ≡ Some f
more_ends part operand zero f e = refl
more_ends part operand (suc k) f e = rw e refl

-- what is known of a reading, for each bound n on the nesting that the text's length keeps
abbrev pub Claim : Part → ℕ → List ℕ → Found → Type 0
Claim Factor n text f = Ends f.rest → factor_at n text ≡ Some f
Claim Term n text f = Ends f.rest → (k : ℕ) × (length f.rest ≤ k) × (term_at n text ≡ more Term (factor_at n) k f)
Claim Whole n text f = Ends f.rest → operator_at Term f.rest ≡ None → (k : ℕ) × (length f.rest ≤ k) × (whole_by (factor_at n) text ≡ more Whole (term_at n) k f)

-- a term with nothing of it left is read as it is
term_ends : (n : ℕ) (text : List ℕ) (f : Found) → Claim Term n text f → Ends f.rest → operator_at Term f.rest ≡ None → term_at n text ≡ Some f
term_ends n text f claim ends none = let c = claim ends in c.2 ∙ more_ends Term (factor_at n) c.0 f none

-- an expression after which no operator follows is read by the reader of its depth
pub whole_ends : (n : ℕ) (text : List ℕ) (f : Found) → Claim Whole n text f → Ends f.rest → operator_at Term f.rest ≡ None → operator_at Whole f.rest
    ≡ None → whole_at (suc n) text ≡ Some f
unfolding whole_at
whole_ends n text f claim ends none no_sign = let c = claim ends none in c.2 ∙ more_ends Whole (term_at n) c.0 f no_sign

-- a closing parenthesis may follow a factor
pub closing : (rest : List ℕ) → Ends (41 ∷ rest)
closing rest = record { no_digit = refl; no_random = refl }

group_read : (n : ℕ) (text : List ℕ) (e : Expression) (large : Option ℕ) (rest : List ℕ) → Claim Whole n text (record { tree = e; large = large; rest = 41 ∷ rest })
    → (whole_at (suc n) text >>= closed) ≡ Some (record { tree = e; large = large; rest = rest })
group_read n text e large rest claim = rw (whole_ends n text (record { tree = e; large = large; rest = 41 ∷ rest }) claim (closing rest) refl refl) refl

random_read : (n : ℕ) (text : List ℕ) (e : Expression) (large : Option ℕ) (rest : List ℕ) → Claim Whole n text (record { tree = e; large = large; rest = 41 ∷ rest })
    → factor_at (suc n) (82 ∷ 78 ∷ 68 ∷ 40 ∷ text) ≡ Some (record { tree = Random e; large = large; rest = rest })
unfolding factor_by group_by
random_read n text e large rest claim = rw (group_read n text e large rest claim) refl

parentheses_read : (n : ℕ) (text : List ℕ) (e : Expression) (large : Option ℕ) (rest : List ℕ) → Claim Whole n text (record { tree = e; large = large; rest = 41 ∷ rest })
    → factor_at (suc n) (40 ∷ text) ≡ Some (record { tree = e; large = large; rest = rest })
unfolding factor_by group_by
parentheses_read n text e large rest claim = group_read n text e large rest claim

-- one more operand is read with the operands before it
goes_on : (part : Part) (operand : List ℕ → Option Found) (k : ℕ) (a b : Expression) (la lb : Option ℕ) (sign : ℕ) (op : Operator) (middle rest : List ℕ)
    → operator part sign ≡ Some op → operand middle ≡ Some (record { tree = b; large = lb; rest = rest })
    → more part operand (suc k) (record { tree = a; large = la; rest = sign ∷ middle }) ≡ more part operand k (record { tree = Binary op a b; large = option_or la lb; rest = rest })
goes_on part operand k a b la lb sign op middle rest h e = rw (h, e) refl

-- a bound above a number is a successor
pub one_more : (k m : ℕ) → suc m ≤ k → (j : ℕ) × (k ≡ suc j)
one_more zero m h = absurd (omega arith)
one_more (suc j) m h = (j, refl)

term_first : (operand : List ℕ → Option Found) (text : List ℕ) (f : Found) → operand text ≡ Some f → term_by operand text ≡ more Term operand (length f.rest) f
unfolding term_by
term_first operand text f e = rw e refl

whole_first : (operand : List ℕ → Option Found) (text : List ℕ) (f : Found) → signed_by (term_by operand) text ≡ Some f → whole_by operand text
    ≡ more Whole (term_by operand) (length f.rest) f
unfolding whole_by
whole_first operand text f e = rw e refl

-- each part in the grammar is read at every bound from the text's length on
pub complete : {part : Part} {text : List ℕ} {e : Expression} {large : Option ℕ} {rest : List ℕ} → Reads part text e large rest → (n : ℕ) → length text ≤ n
    → Claim part n text (record { tree = e; large = large; rest = rest })
complete (number text d digits rest h ds) n le = λ ends. rw h (number_read (whole_at n) d digits rest ds ends.no_digit)
complete (variable v rest h) n le = λ ends. variable_read (whole_at n) v rest h ends
complete (random text e large rest r) zero le = λ ends. absurd (omega arith)
complete (random text e large rest r) (suc n) le = λ ends. random_read n text e large rest (complete r n (omega arith))
complete (parentheses text e large rest r) zero le = λ ends. absurd (omega arith)
complete (parentheses text e large rest r) (suc n) le = λ ends. parentheses_read n text e large rest (complete r n (omega arith))
complete (factor text e large rest r) n le = λ ends. (length rest, omega arith, term_first (factor_at n) text (record { tree = e; large = large; rest = rest }) (complete r n le ends))
complete (product text a b la lb sign op middle rest r h q) n le = λ ends.
    let s = shorter r in
    let t = shorter q in
    let c = complete r n le (operator_ends Term sign op middle h) in
    let j = one_more c.0 (length middle) c.1 in
    let d = complete q n (omega arith) ends in (
      j.0,
      omega (arith, j.1, c.1),
      c.2 ∙ ap (λ (k : ℕ). more Term (factor_at n) k (record { tree = a; large = la; rest = sign ∷ middle })) j.1
          ∙ goes_on Term (factor_at n) j.0 a b la lb sign op middle rest h d,
    )
complete (term text e large rest r) n le = λ ends none.
    let u = unsigned r (λ h. cc) in
    let f : Found = record { tree = e; large = large; rest = rest } in
    (length rest, omega arith, whole_first (factor_at n) text f (rw (u.0, u.1) (term_ends n text f (complete r n le) ends none)))
complete (plus text e large rest r) n le = λ ends none.
    let f : Found = record { tree = e; large = large; rest = rest } in
    (length rest, omega arith, whole_first (factor_at n) (43 ∷ text) f (term_ends n text f (complete r n (omega arith)) ends none))
complete (minus text e large rest r) n le = λ ends none.
    let f : Found = record { tree = e; large = large; rest = rest } in
    (length rest, omega arith, whole_first (factor_at n) (45 ∷ text) (negated f) (rw (term_ends n text f (complete r n (omega arith)) ends none) refl))
complete (sum text a b la lb sign op middle rest r h q) n le = λ ends none.
    let s = shorter r in
    let t = shorter q in
    let c = complete r n le (operator_ends Whole sign op middle h) (sign_no_term sign op middle h) in
    let j = one_more c.0 (length middle) c.1 in
    let f : Found = record { tree = b; large = lb; rest = rest } in
    let d = term_ends n middle f (complete q n (omega arith)) ends none in (
      j.0,
      omega (arith, j.1, c.1),
      c.2 ∙ ap (λ (k : ℕ). more Whole (term_at n) k (record { tree = a; large = la; rest = sign ∷ middle })) j.1
          ∙ goes_on Whole (term_at n) j.0 a b la lb sign op middle rest h d,
    )

-- what may follow an expression
pub record Follows (rest : List ℕ) : Type 0 where
  pub ends : Ends rest
  pub no_term : operator_at Term rest ≡ None
  pub no_whole : operator_at Whole rest ≡ None

-- the end of the text may follow an expression
pub nothing_follows : Follows []
nothing_follows = record { ends = record { no_digit = refl; no_random = refl }; no_term = refl; no_whole = refl }

-- A text that begins with an expression is read as it, and no other.
pub front_read : (text : List ℕ) (e : Expression) (large : Option ℕ) (rest : List ℕ) → Reads Whole text e large rest → Follows rest → front_of text
    ≡ Some (record { tree = e; large = large; rest = rest })
unfolding front_of
front_read text e large rest r f =
    let n : length text + 1 ≡ suc (length text) = omega arith in
    rw n (whole_ends (length text) text (record { tree = e; large = large; rest = rest }) (complete r (length text) (omega arith)) f.ends f.no_term f.no_whole)

-- no expression begins with a quote or a relation
abbrev pub NoOther : List ℕ → Type 0
NoOther text = (behind 34 text ≡ None) × (behind 60 text ≡ None) × (behind 61 text ≡ None) × (behind 62 text ≡ None)

-- each part begins with neither a quote nor a relation
pub no_other : {part : Part} {text : List ℕ} {e : Expression} {large : Option ℕ} {rest : List ℕ} → Reads part text e large rest → NoOther text
no_other (number text d digits rest h ds) = let first = All-head IsDigit d digits ds in
    rw h (rw (ne_eqb d 34 (omega arith), ne_eqb d 60 (omega arith), ne_eqb d 61 (omega arith), ne_eqb d 62 (omega arith)) (refl, refl, refl, refl))
no_other (variable v rest h) = rw (ne_eqb v 34 (omega arith), ne_eqb v 60 (omega arith), ne_eqb v 61 (omega arith), ne_eqb v 62 (omega arith)) (refl, refl, refl, refl)
no_other (random text e large rest r) = (refl, refl, refl, refl)
no_other (parentheses text e large rest r) = (refl, refl, refl, refl)
no_other (factor text e large rest r) = no_other r
no_other (product text a b la lb sign op middle rest r h q) = no_other r
no_other (term text e large rest r) = no_other r
no_other (plus text e large rest r) = (refl, refl, refl, refl)
no_other (minus text e large rest r) = (refl, refl, refl, refl)
no_other (sum text a b la lb sign op middle rest r h q) = no_other r
