-- Texts that were appended.
use Rattle.std.proofs.Common.{ℕ, ◌≡◌, List, ◌++◌, ap, ◌∙◌}
use Rattle.std.specs.Prelude.{Result, Ok, Err, OnOk, is_ok, if◌then◌else◌}

-- an appended text, named otherwise
pub appended : {U E : Type 0} (r : Result U E) (new old shown text : List ℕ) → new ≡ (if is_ok r then old ++ shown else old) → shown ≡ text → OnOk r (new ≡ old ++ text)
appended (Ok u) new old shown text e same = e ∙ ap (λ x. old ++ x) same
appended (Err u) new old shown text e same = tt

-- ten parts, appended one after the other
pub all_appended : (t0 t1 t2 t3 t4 t5 t6 t7 t8 t9 pc a x y s p gap line status : List ℕ) → t0 ≡ pc → t1 ≡ t0 ++ a → t2 ≡ t1 ++ x → t3 ≡ t2 ++ y → t4 ≡ t3 ++ s → t5 ≡ t4 ++ p
    → t6 ≡ t5 ++ gap → t7 ≡ t6 ++ line → t8 ≡ t7 ++ gap → t9 ≡ t8 ++ status
    → t9 ≡ pc ++ a ++ x ++ y ++ s ++ p ++ gap ++ line ++ gap ++ status
all_appended t0 t1 t2 t3 t4 t5 t6 t7 t8 t9 pc a x y s p gap line status e0 e1 e2 e3 e4 e5 e6 e7 e8 e9 = cc
