-- Which line stands, while lines are read.
use Rattle.std.proofs.Common.{◌≡◌, ℕ, Bool, true, false, cond, if◌then◌else◌, Option, Some, refl, arith, ◌==◌, nat_lt}
use Rattle.std.proofs.lemmas.Bool.Decides.{nat_tests}
use Rattle.std.specs.BTreeMap.{is_at}
use Rattle.std.specs.Ordering.{nat_cmp, is_eq}
use Rattle.std.specs.declared.cmp.Ordering.TheVariants.{Less, Equal, Greater}
use Rattle.tb_basic_names.specs.Sources.{joined}

same_key : (k q : ℕ) → is_at (nat_cmp k) q ≡ (k == q)
same_key k q = go (nat_lt k q) (k == q) refl refl
  where
    go : (less same : Bool) → nat_lt k q ≡ less → (k == q) ≡ same → is_eq (cond less Less (cond same Equal Greater)) ≡ same
    go true true l s = grind (arith, nat_tests)
    go true false l s = refl
    go false true l s = refl
    go false false l s = refl

-- what is found of a number after an entry of the map was set
pub set_place : (m n : ℕ) (place : Option ℕ) (before after : Option (Option ℕ)) → after ≡ cond (is_at (nat_cmp m) n) (Some place) before
    → joined after ≡ (if m == n then place else joined before)
set_place m n place before after e = rw (e, same_key m n) (go (m == n))
  where
    go : (same : Bool) → joined (cond same (Some place) before) ≡ (if same then place else joined before)
    go true = refl
    go false = refl
