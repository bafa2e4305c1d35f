-- Going on after an operator.
use Rattle.std.proofs.Common.{◌≡◌, ℕ, zero, suc, ◌<◌, ◌≤◌, List, length, Option, Some, refl, sym, ap, ◌∙◌, arith}
use Rattle.tb_basic_syntax.specs.declared.expressions.Operator.{Operator}
use Rattle.tb_basic_grammar.specs.Grammar.{Part, Term, Factor}
use Rattle.tb_basic_grammar.specs.Reading.{Found, joined, operator_at, more, whole_at, factor_at, term_at}
use Rattle.tb_basic_grammar.proofs.Sound.{Finds, operator_is, factor_finds, term_finds, whole_finds}
use Rattle.tb_basic_grammar.proofs.Complete.{shorter}

module _ (part lower : Part) (operand : List ℕ → Option Found) (finds : Finds lower operand) (f g new : Found) (op : Operator) (tail : List ℕ) where
  -- an operator with its operand leaves a shorter text
  pub shrinks : operator_at part f.rest ≡ Some (op, tail) → operand tail ≡ Some g → new ≡ joined op f g → length new.rest < length f.rest
  shrinks o e n =
      let a = operator_is part f.rest (op, tail) o in
      let s = shorter (finds.by tail g e) in
      omega (arith, ap length a.1, ap (λ (h : Found). length h.rest) n)

  -- a turn of the loop that reads an operator and its operand keeps what is to be read
  pub goes_on : (k : ℕ) (total : Option Found) → length f.rest ≤ k → more part operand k f ≡ total → operator_at part f.rest ≡ Some (op, tail)
      → operand tail ≡ Some g → new ≡ joined op f g
      → (j : ℕ) × (length new.rest ≤ j) × (more part operand j new ≡ total)
  goes_on zero total le h o e n = let s = shrinks o e n in absurd (omega arith)
  goes_on (suc k) total le h o e n =
      let s = shrinks o e n in
      let step : more part operand (suc k) f ≡ more part operand k (joined op f g) = rw (o, e) refl in
      (k, omega arith, ap (more part operand k) n ∙ sym step ∙ h)

-- the reader of factors at a depth finds only what is in the grammar
pub at_factor : (n : ℕ) → Finds Factor (factor_at n)
at_factor n = factor_finds (whole_at n) (whole_finds n)

-- the reader of terms at a depth finds only what is in the grammar
pub at_term : (n : ℕ) → Finds Term (term_at n)
at_term n = term_finds (factor_at n) (at_factor n)
