-- The last line that has a number.
use Rattle.std.proofs.Common.{◌≡◌, ℕ, Bool, true, false, cond, if◌then◌else◌, List, ◌∷◌, Option, Some, None, refl, ◌∙◌, arith, ◌==◌, nat_lt}
use Rattle.std.proofs.lemmas.Bool.Decides.{nat_tests}
use Rattle.std.specs.Option.{option_or}
use Rattle.std.specs.BTreeMap.{is_at}
use Rattle.std.specs.Ordering.{nat_cmp, is_eq}
use Rattle.std.specs.declared.cmp.Ordering.TheVariants.{Less, Equal, Greater}
use Rattle.tb_engine_findings.specs.Warnings.{last_with}
use Rattle.tb_engine_findings.specs.declared.lines.NumberedLine.{NumberedLine}

same_key : (k q : ℕ) → is_at (nat_cmp k) q ≡ (k == q)
same_key k q = go (nat_lt k q) (k == q) refl refl
  where
    go : (less same : Bool) → nat_lt k q ≡ less → (k == q) ≡ same → is_eq (cond less Less (cond same Equal Greater)) ≡ same
    go true true l s = grind (arith, nat_tests)
    go true false l s = refl
    go false true l s = refl
    go false false l s = refl

-- a line that is found before those of the rest
pub last_step : (n : ℕ) (rest : List NumberedLine) (x : NumberedLine) (before after all : Option NumberedLine)
    → option_or (last_with n (x ∷ rest)) before ≡ all → after ≡ cond (is_at (nat_cmp x.number) n) (Some x) before → option_or (last_with n rest) after ≡ all
last_step n rest x before after all h e = rw (e, same_key x.number n) (go (last_with n rest) (x.number == n) ∙ h)
  where
    go : (found : Option NumberedLine) (same : Bool) → option_or found (cond same (Some x) before) ≡ option_or (option_or found (if same then Some x else None)) before
    go None true = refl
    go None false = refl
    go (Some y) true = refl
    go (Some y) false = refl

-- nothing is found before the first line
pub or_none : (found : Option NumberedLine) → option_or found None ≡ found
or_none None = refl
or_none (Some x) = refl
