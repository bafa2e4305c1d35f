-- Comparisons of words by two carries.
use Rattle.std.proofs.Common.{◌≡◌, ℕ, ◌+◌, ◌*◌, ◌<◌, ◌≤◌, true, false, not, arith}
use Rattle.std.specs.Prelude.{nat_le}
use Rattle.std.proofs.lemmas.Bool.{le-leb, lt-leb}
use Rattle.tb_cpu.specs.Effects.{bit}
use Rattle.tb_runtime16.proofs.Words.{borrow}

-- the carry after CMP low, SBC high
pub carry_at_least : (l h k j : ℕ) → l < 256 → h < 256 → k < 256 → j < 256 → k + 256 * j ≤ l + 256 * h → nat_le (j + bit (not (nat_le k l))) h ≡ true
carry_at_least l h k j p q r s e = le-leb _ h (omega (arith, borrow k l (omega arith) p))

-- the carry after CMP low, SBC high is clear if the first word is less
pub carry_below : (l h k j : ℕ) → l < 256 → h < 256 → k < 256 → j < 256 → l + 256 * h < k + 256 * j → nat_le (j + bit (not (nat_le k l))) h ≡ false
carry_below l h k j p q r s e = lt-leb _ h (omega (arith, borrow k l (omega arith) p))
