-- Texts without a first byte.
use Rattle.std.proofs.Common.{◌≡◌, ◌≢◌, ℕ, Bool, true, false, List, [], ◌∷◌, ◌==◌, refl, ap, arith}
use Rattle.std.proofs.lemmas.Bool.Decides.{nat_tests}
use Rattle.tb_dap_requests.specs.Asking.{console_question, expression, without_space}

-- a text that begins with no space is itself without one
pub no_space : (text : List ℕ) → ((rest : List ℕ) → text ≢ 32 ∷ rest) → text ≡ without_space text
no_space [] h = refl
no_space (b ∷ bs) h = go (b == 32) refl
  where
    go : (t : Bool) → (b == 32) ≡ t → b ∷ bs ≡ without_space (b ∷ bs)
    go true e = absurd (h bs (ap (λ n. n ∷ bs) (grind (arith, nat_tests))))
    go false e = rw e

-- a text that doesn't begin with `>` is an expression
pub no_line : (text : List ℕ) → ((rest : List ℕ) → text ≢ 62 ∷ rest) → expression text ≡ console_question text
no_line [] h = refl
no_line (b ∷ bs) h = go (b == 62) refl
  where
    go : (t : Bool) → (b == 62) ≡ t → expression (b ∷ bs) ≡ console_question (b ∷ bs)
    go true e = absurd (h bs (ap (λ n. n ∷ bs) (grind (arith, nat_tests))))
    go false e = rw e
