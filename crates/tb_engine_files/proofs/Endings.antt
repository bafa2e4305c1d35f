-- Whether two texts are the same.
use Rattle.std.proofs.Common.{◌≡◌, ℕ, Bool, List, IsTrue, ◌↔◌}
use Rattle.std.specs.Bool.{one_answer}
use Rattle.std.specs.Str.{bytes_eq}
use Rattle.std.proofs.lemmas.Slice.Eq.{bytes_eq-Decides}

-- a test that says whether two texts are the same is their comparison
pub decided : (b : Bool) (xs ys : List ℕ) → (IsTrue b ↔ (xs ≡ ys)) → b ≡ bytes_eq xs ys
decided b xs ys test = one_answer b (bytes_eq xs ys) (λ e. test.0 e, λ e. test.1 e) (bytes_eq-Decides xs ys)
