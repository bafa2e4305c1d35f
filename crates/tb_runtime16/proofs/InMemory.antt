-- Words in memory, as two bytes.
use Rattle.std.proofs.Common.{◌≡◌, ℕ, ◌+◌, ◌<◌, ◌∙◌, subst, arith}
use Rattle.tb_cpu.specs.Operands.{word_in}
use Rattle.tb_runtime16.specs.Laws.{WordAt}

-- an address and the next one hold bytes
abbrev pub IsWord : (ℕ → ℕ) → ℕ → Type 0
IsWord m at = (m at < 256) × (m (at + 1) < 256)

-- a word that is at an address is the one read there
pub value : (m : ℕ → ℕ) (at w : ℕ) → WordAt m at w → word_in m at ≡ w
value m at w h = omega (arith, h.low, h.high)

-- a word is at addresses that hold bytes
pub bytes_of : (m : ℕ → ℕ) (at w : ℕ) → WordAt m at w → IsWord m at
bytes_of m at w h = (omega (arith, h.low), omega (arith, h.high, h.small))

-- two bytes are the word that they make
pub holds_word : (m : ℕ → ℕ) (at w : ℕ) → IsWord m at → word_in m at ≡ w → WordAt m at w
holds_word m at w h e = record { low = omega (arith, h.0, h.1, e); high = omega (arith, h.0, h.1, e); small = omega (arith, h.0, h.1, e) }

-- what holds of the two bytes holds of the word
pub of_word : (P : ℕ → Type 0) (m : ℕ → ℕ) (at w : ℕ) → WordAt m at w → P (word_in m at) → P w
of_word P m at w h p = subst P (value m at w h) p

-- memories that agree on the two bytes have the same word
pub same_place : (m k : ℕ → ℕ) (at w : ℕ) → WordAt m at w → k at ≡ m at → k (at + 1) ≡ m (at + 1) → WordAt k at w
same_place m k at w h p q = record { low = p ∙ h.low; high = q ∙ h.high; small = h.small }
