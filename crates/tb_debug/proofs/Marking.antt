-- Marks of addresses.
use Rattle.std.proofs.Common.{◌≡◌, ◌∙◌, ℕ, zero, suc, replicate, false, true, refl, slice_index_or, arith}
use Rattle.std.specs.Prelude.{nat_lt}
use Rattle.std.proofs.lemmas.Bool.Decides.{nat_tests}

-- before a line is marked, no address is
pub none_marked : (n a : ℕ) → slice_index_or (replicate n false) a false ≡ false
none_marked zero a = refl
none_marked (suc n) zero = refl
none_marked (suc n) (suc a) = none_marked n a

-- an address below a number, one by one
lt_suc : (a n : ℕ) → nat_lt a n ≡ nat_lt (suc a) (suc n)
lt_suc a n = grind (arith, nat_tests)

none_below : (a : ℕ) → false ≡ nat_lt a 0
none_below a = grind (arith, nat_tests)

first_below : (n : ℕ) → true ≡ nat_lt 0 (suc n)
first_below n = grind (arith, nat_tests)

-- if each address is marked, those below their number are
pub all_marked : (n a : ℕ) → slice_index_or (replicate n true) a false ≡ nat_lt a n
all_marked zero a = none_below a
all_marked (suc n) zero = first_below n
all_marked (suc n) (suc a) = all_marked n a ∙ lt_suc a n
