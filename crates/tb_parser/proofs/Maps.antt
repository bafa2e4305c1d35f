-- A program's map and its lines as plain data.
use Rattle.std.proofs.Common.{◌≡◌, ℕ, Bool, true, false, cond, List, [], ◌∷◌, refl, sym, ap, ◌∙◌, arith, if◌then◌else◌, ◌==◌}
use Rattle.std.proofs.lemmas.Bool.Decides.{nat_tests}
use Rattle.std.specs.Prelude.{nat_lt}
use Rattle.std.specs.Ordering.{nat_cmp, match_ordering, is_eq}
use Rattle.std.specs.declared.cmp.Ordering.TheVariants.{Less, Equal, Greater}
use Rattle.std.specs.BTreeMap.{insert_entry, is_at}
use Rattle.std.specs.Map.{remove_entry}
use Rattle.std.proofs.lemmas.Bool.{eqb-true}
use Rattle.tb_basic_syntax.specs.declared.statements.Statement.{Statement}
use Rattle.tb_basic_syntax.specs.Source.{Program}
use Rattle.tb_basic_syntax.specs.PlainData.{statement_of, line_of, lines_of}
use Rattle.tb_parser.specs.Files.{line_at, with_line, without_line}

not_same : (a b : ℕ) → nat_lt a b ≡ true → (a == b) ≡ false
not_same a b e = grind (arith, nat_tests)

-- setting an entry of the map sets the line of the program
pub lines_of_insert : (es : List (ℕ × Statement)) (n : ℕ) (s : Statement) → lines_of (insert_entry nat_cmp es n s) ≡ with_line n (statement_of s) (lines_of es)
lines_of_insert [] n s = refl
lines_of_insert (e ∷ es) n s = go (lines_of_insert es n s) (nat_lt n e.0) (n == e.0) refl
  where
    go : lines_of (insert_entry nat_cmp es n s) ≡ with_line n (statement_of s) (lines_of es) → (less same : Bool) → (n == e.0) ≡ same
        → lines_of (match_ordering (cond less Less (cond same Equal Greater)) ((n, s) ∷ e ∷ es) ((e.0, s) ∷ es) (e ∷ insert_entry nat_cmp es n s))
        ≡ (if less then line_at n (statement_of s) ∷ line_of e ∷ lines_of es else if same then line_at n (statement_of s) ∷ lines_of es else line_of e
        ∷ with_line n (statement_of s) (lines_of es))
    go h true same is = refl
    go h false true is = ap (λ (k : ℕ). line_at k (statement_of s) ∷ lines_of es) (sym (eqb-true n e.0 is))
    go h false false is = ap (λ (t : Program). line_of e ∷ t) h

-- removing an entry of the map removes the line of the program
pub lines_of_remove : (es : List (ℕ × Statement)) (n : ℕ) → lines_of (remove_entry (is_at (nat_cmp n)) es) ≡ without_line n (lines_of es)
lines_of_remove [] n = refl
lines_of_remove (e ∷ es) n = go (lines_of_remove es n) (nat_lt n e.0) (n == e.0) refl refl
  where
    go : lines_of (remove_entry (is_at (nat_cmp n)) es) ≡ without_line n (lines_of es) → (less same : Bool) → nat_lt n e.0 ≡ less → (n == e.0) ≡ same
        → lines_of (cond (is_eq (cond less Less (cond same Equal Greater))) es (e ∷ remove_entry (is_at (nat_cmp n)) es))
        ≡ (if same then lines_of es else line_of e ∷ without_line n (lines_of es))
    go h true true below is = absurd (let no_match : true ≡ false = sym is ∙ not_same n e.0 below in cc)
    go h true false below is = ap (λ (t : Program). line_of e ∷ t) h
    go h false true below is = refl
    go h false false below is = ap (λ (t : Program). line_of e ∷ t) h
