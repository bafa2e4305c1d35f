-- Digits that spell a number above 65,535.
use Rattle.std.proofs.Common.{◌≡◌, ℕ, ◌+◌, ◌-◌, ◌*◌, ◌<◌, ◌≤◌, Bool, true, false, ◌&&◌, List, [], ◌∷◌, length, get_or, arith, refl, None}
use Rattle.std.specs.Prelude.{nat_le}
use Rattle.std.proofs.lemmas.Bool.Decides.{nat_tests}
use Rattle.std.specs.List.{list_all}
use Rattle.tb_basic_grammar.specs.Grammar.{value_after, is_digit}
use Rattle.tb_debug_commands.specs.Parts.{number_behind}

-- more digits make no number smaller
grows : (n : ℕ) (ds : List ℕ) → n ≤ value_after n ds
grows n [] = omega arith
grows n (d ∷ ds) = omega (arith, grows (10 * n + (d - 48)) ds)

-- what is too large stays so
no_small : (b : Bool) (n : ℕ) → 18446744073709551615 < n → (b && nat_le n 18446744073709551615) ≡ false
no_small true n above = grind (arith, nat_tests, above)
no_small false n above = refl

-- if the number of the first digits is too large, none is spelled
pub too_large : (n : ℕ) (ds : List ℕ) → 1 ≤ length ds → 18446744073709551615 < 10 * n + (get_or ds 0 0 - 48) → number_behind n ds ≡ None
too_large n [] some above = absurd (omega (arith, some))
too_large n (d ∷ ds) some above =
    let large : 18446744073709551615 < value_after (10 * n + (d - 48)) ds = omega (arith, above, grows (10 * n + (d - 48)) ds) in
    rw (no_small (list_all is_digit (d ∷ ds)) (value_after (10 * n + (d - 48)) ds) large) refl
