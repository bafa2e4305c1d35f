-- Digits at the front.
use Rattle.std.proofs.Common.{◌≡◌, ℕ, ◌+◌, ◌-◌, ◌*◌, ◌≤◌, Bool, true, false, List, [], ◌∷◌, Some, None, refl, arith, ap, ◌==◌, if◌then◌else◌}
use Rattle.tb_basic_grammar.specs.Grammar.{is_digit}
use Rattle.tb_parser.specs.declared.squeeze.Placed.{Placed}
use Rattle.tb_parser.specs.declared.squeeze.Mode.TheVariants.{Code}
use Rattle.tb_parser.specs.Scans.{first_written, starts_with_digit, Counted, number_at}
use Rattle.tb_parser.specs.Squeezed.{squeezed_from}

-- more digits make no smaller number
pub grows : (n : ℕ) (placed : List Placed) → n ≤ (number_at n placed).value
unfolding number_at
grows n [] = omega arith
grows n (p ∷ placed) = go (grows (10 * n + (p.byte - 48)) placed) (is_digit p.byte)
  where
    go : 10 * n + (p.byte - 48) ≤ (number_at (10 * n + (p.byte - 48)) placed).value → (b : Bool)
        → n ≤ (if b then number_at (10 * n + (p.byte - 48)) placed else record { value = n; rest = p ∷ placed }).value
    go h true = omega (arith, h)
    go h false = omega arith

-- a number ends before what is no digit
pub number_ends : (n : ℕ) (placed : List Placed) → starts_with_digit placed ≡ false → number_at n placed ≡ record { value = n; rest = placed }
unfolding number_at
number_ends n [] e = refl
number_ends n (p ∷ placed) e = rw e refl

-- a number that isn't 0 has a digit
pub number_has_digit : (placed : List Placed) → 1 ≤ (number_at 0 placed).value → starts_with_digit placed ≡ true
number_has_digit placed h = go (starts_with_digit placed) refl
  where
    go : (b : Bool) → starts_with_digit placed ≡ b → starts_with_digit placed ≡ true
    go true e = e
    go false e = absurd (omega (arith, h, ap (λ (r : Counted). r.value) (number_ends 0 placed e)))

-- nothing is left of a blank line
pub blank_squeezed : (column : ℕ) (line : List ℕ) → first_written column line ≡ None → squeezed_from Code column line ≡ []
unfolding first_written squeezed_from
blank_squeezed column [] e = refl
blank_squeezed column (b ∷ line) e = go (blank_squeezed (column + 1) line) (b == 32) refl
  where
    go : (first_written (column + 1) line ≡ None → squeezed_from Code (column + 1) line ≡ []) → (same : Bool) → (b == 32) ≡ same → squeezed_from Code column (b ∷ line) ≡ []
    go rest true is = rw is (rest (rw is at e))
    go rest false is = let no_match : Some column ≡ None = rw is at e in absurd cc
