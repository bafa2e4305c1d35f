-- Texts that were appended piece by piece.
use Rattle.std.proofs.Common.{ℕ, ◌≡◌, List, ◌++◌, append_assoc, ap, ◌∙◌}
use Rattle.std.specs.Prelude.{Result, Ok, Err, OnOk, is_ok, if◌then◌else◌}

-- two pieces that were appended one after the other are one longer piece
two : (t0 t1 t2 a b : List ℕ) → t1 ≡ t0 ++ a → t2 ≡ t1 ++ b → t2 ≡ t0 ++ (a ++ b)
two t0 t1 t2 a b e0 e1 = e1 ∙ ap (λ t. t ++ b) e0 ∙ append_assoc t0 a b

-- three pieces, if the last append succeeded
pub three : {U E : Type 0} (r : Result U E) (t0 t1 t2 t3 a b c : List ℕ) → t1 ≡ t0 ++ a → t2 ≡ t1 ++ b → t3 ≡ (if is_ok r then t2 ++ c else t2)
    → OnOk r (t3 ≡ t0 ++ (a ++ b ++ c))
three (Ok u) t0 t1 t2 t3 a b c e0 e1 e2 = two t0 t2 t3 (a ++ b) c (two t0 t1 t2 a b e0 e1) e2
three (Err e) t0 t1 t2 t3 a b c e0 e1 e2 = tt

-- five pieces, if the last append succeeded
pub five : {U E : Type 0} (r : Result U E) (t0 t1 t2 t3 t4 t5 a b c d e : List ℕ) → t1 ≡ t0 ++ a → t2 ≡ t1 ++ b → t3 ≡ t2 ++ c → t4 ≡ t3 ++ d
    → t5 ≡ (if is_ok r then t4 ++ e else t4) → OnOk r (t5 ≡ t0 ++ (a ++ b ++ c ++ d ++ e))
five (Ok u) t0 t1 t2 t3 t4 t5 a b c d e e0 e1 e2 e3 e4 =
    two t0 t4 t5 (a ++ b ++ c ++ d) e (two t0 t3 t4 (a ++ b ++ c) d (two t0 t2 t3 (a ++ b) c (two t0 t1 t2 a b e0 e1) e2) e3) e4
five (Err u) t0 t1 t2 t3 t4 t5 a b c d e e0 e1 e2 e3 e4 = tt

-- four pieces, the last by a call that itself promises its text only on success
pub four : {U E : Type 0} (r : Result U E) (t0 t1 t2 t3 t4 a b c d : List ℕ) → t1 ≡ t0 ++ a → t2 ≡ t1 ++ b → t3 ≡ t2 ++ c → OnOk r (t4 ≡ t3 ++ d)
    → OnOk r (t4 ≡ t0 ++ (a ++ b ++ c ++ d))
four (Ok u) t0 t1 t2 t3 t4 a b c d e0 e1 e2 e3 = two t0 t3 t4 (a ++ b ++ c) d (two t0 t2 t3 (a ++ b) c (two t0 t1 t2 a b e0 e1) e2) e3
four (Err e) t0 t1 t2 t3 t4 a b c d e0 e1 e2 e3 = tt
