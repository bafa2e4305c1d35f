-- Powers of two.
use Rattle.std.proofs.Common.{ℕ, zero, suc, ◌+◌}

abbrev pub pow2 : ℕ → ℕ
pow2 zero = 1
pow2 (suc k) = pow2 k + pow2 k
