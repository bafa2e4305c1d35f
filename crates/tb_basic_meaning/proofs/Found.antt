-- A program's map finds the lines that there are.
use Rattle.std.proofs.Common.{◌≡◌, ℕ, Bool, true, false, ◌||◌, cond, List, [], ◌∷◌, Some, is_some, refl, sym, ap, ◌∙◌, arith, ◌==◌}
use Rattle.std.proofs.lemmas.Bool.Decides.{nat_tests}
use Rattle.std.specs.Prelude.{nat_eq, nat_lt}
use Rattle.std.specs.Ordering.{nat_cmp, is_eq}
use Rattle.std.specs.declared.cmp.Ordering.TheVariants.{Less, Equal, Greater}
use Rattle.std.specs.BTreeMap.{is_at}
use Rattle.std.specs.Map.{lookup}
use Rattle.tb_basic_syntax.specs.declared.statements.Statement.{Statement}
use Rattle.tb_basic_syntax.specs.PlainData.{lines_of}
use Rattle.tb_basic_syntax.specs.Source.{numbers}
use Rattle.tb_basic_meaning.specs.Control.{has_line}

turned : (a b : ℕ) (t : Bool) → (a == b) ≡ t → nat_eq b a ≡ t
turned a b true e = grind (arith, nat_tests)
turned a b false e = grind (arith, nat_tests)

other : (a b : ℕ) → nat_lt a b ≡ true → nat_eq b a ≡ false
other a b e = grind (arith, nat_tests)

-- a look-up in the map finds a line exactly if the program has it
pub found_line : (es : List (ℕ × Statement)) (n : ℕ) → is_some (lookup (is_at (nat_cmp n)) es) ≡ has_line (numbers (lines_of es)) n
found_line [] n = refl
found_line (e ∷ es) n = go (found_line es n) (nat_lt n e.0) (n == e.0) refl refl
  where
    go : is_some (lookup (is_at (nat_cmp n)) es) ≡ has_line (numbers (lines_of es)) n → (less same : Bool) → nat_lt n e.0 ≡ less → (n == e.0) ≡ same
        → is_some (cond (is_eq (cond less Less (cond same Equal Greater))) (Some e.1) (lookup (is_at (nat_cmp n)) es)) ≡ (nat_eq e.0 n || has_line (numbers (lines_of es)) n)
    go h true same below is = h ∙ ap (λ t. t || has_line (numbers (lines_of es)) n) (sym (other n e.0 below))
    go h false true below is = ap (λ t. t || has_line (numbers (lines_of es)) n) (sym (turned n e.0 true is))
    go h false false below is = h ∙ ap (λ t. t || has_line (numbers (lines_of es)) n) (sym (turned n e.0 false is))
