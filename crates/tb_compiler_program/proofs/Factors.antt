-- Which products are computed by a constant's bits, and which quotients by shifts.
use Rattle.std.proofs.Common.{◌≡◌, ℕ, ◌+◌, ◌^◌, ◌<◌, Bool, true, false, refl, arith, Option, Some, None}
use Rattle.std.specs.Prelude.{if◌then◌else◌, nat_eq}
use Rattle.std.proofs.lemmas.Bool.{eqb-true}
use Rattle.tb_compiler_templates.specs.declared.sources.Source.{Source}
use Rattle.tb_compiler_templates.specs.declared.sources.Source.TheVariants.{FixedWord, AtAddress}
use Rattle.tb_compiler_templates.specs.Scaled.{is_factor, scaling, shifts}

-- a product's constant and its other word, or none
pub data IsScaling (a b : Source) : Option (ℕ × Source) → Type 0 where
  by_right : (w : ℕ) → b ≡ FixedWord w → is_factor w ≡ true → IsScaling a b (Some (w, a))
  by_left : (v : ℕ) → a ≡ FixedWord v → is_factor v ≡ true → IsScaling a b (Some (v, b))
  by_routine : IsScaling a b None

-- the choice of a product's constant is right
pub scaling_is : (a b : Source) → IsScaling a b (scaling a b)
scaling_is a (FixedWord w) = by (is_factor w) refl
  where
    by : (t : Bool) → is_factor w ≡ t → IsScaling a (FixedWord w) (if t then Some (w, a) else None)
    by true e = by_right w refl e
    by false e = by_routine
scaling_is (FixedWord v) (AtAddress q) = by (is_factor v) refl
  where
    by : (t : Bool) → is_factor v ≡ t → IsScaling (FixedWord v) (AtAddress q) (if t then Some (v, AtAddress q) else None)
    by true e = by_left v refl e
    by false e = by_routine
scaling_is (AtAddress p) (AtAddress q) = by_routine

-- a divisor that is 2^(k + 1), or any other
pub data IsShifting (b : Source) : Option ℕ → Type 0 where
  by_shifts : (w k : ℕ) → b ≡ FixedWord w → k < 8 → w ≡ 2 ^ (k + 1) → IsShifting b (Some k)
  by_call : IsShifting b None

-- a fact about a number that is looked for, before those about others
pub one_of : (P : Option ℕ → Type 0) (w v found : ℕ) (o : Option ℕ) → (w ≡ v → P (Some found)) → P o → P (if nat_eq w v then Some found else o)
one_of P w v found o here rest = by (nat_eq w v) refl
  where
    by : (t : Bool) → nat_eq w v ≡ t → P (if t then Some found else o)
    by true e = here (eqb-true w v e)
    by false e = rest

-- the choice of a quotient's shifts is right
pub shifting_is : (b : Source) → IsShifting b (shifts b)
shifting_is (FixedWord w) =
    let P = λ (o : Option ℕ). IsShifting (FixedWord w) o in
    one_of P w 2 0 _ (by_shifts w 0 refl (omega arith))
    (one_of P w 4 1 _ (by_shifts w 1 refl (omega arith))
    (one_of P w 8 2 _ (by_shifts w 2 refl (omega arith))
    (one_of P w 16 3 _ (by_shifts w 3 refl (omega arith))
    (one_of P w 32 4 _ (by_shifts w 4 refl (omega arith))
    (one_of P w 64 5 _ (by_shifts w 5 refl (omega arith))
    (one_of P w 128 6 _ (by_shifts w 6 refl (omega arith))
    (one_of P w 256 7 _ (by_shifts w 7 refl (omega arith)) by_call)))))))
shifting_is (AtAddress p) = by_call
