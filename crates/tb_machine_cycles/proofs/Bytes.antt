-- A test of each byte, by computing.
use Rattle.std.proofs.Common.{◌≡◌, ℕ, zero, suc, ◌<◌, Bool, true, false, ◌&&◌, refl, arith, inl, inr}
use Rattle.std.proofs.lemmas.Bool.{cases_eq}

-- a test holds below n
unfoldable pub holds_below : (ℕ → Bool) → ℕ → Bool
holds_below p zero = true
holds_below p (suc n) = p n && holds_below p n

both_of : (x y : Bool) → (x && y) ≡ true → (x ≡ true) × (y ≡ true)
both_of true y h = (refl, h)
both_of false y h = absurd (cc)

-- a test that holds below n holds at each number below n
pub holds_at : (p : ℕ → Bool) (n : ℕ) → holds_below p n ≡ true → (b : ℕ) → b < n → p b ≡ true
unfolding holds_below
holds_at p zero h b lt = absurd (omega arith)
holds_at p (suc n) h b lt =
    let both = both_of (p n) (holds_below p n) h in
    elim (cases_eq b n) [ inl same ↦ rw same both.0 | inr other ↦ holds_at p n both.1 b (omega arith) ]
