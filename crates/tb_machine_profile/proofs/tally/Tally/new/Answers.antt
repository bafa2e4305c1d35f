-- The goals of `Tally::new` in src/tally.rt.
use Rattle.std.proofs.Common.{rules, ◌≡◌, ◌≤◌, ap, ◌∙◌, refl, arith, length, slice_index, List, ℕ, replicate}
use Rattle.std.proofs.lemmas.List.{length-replicate}
use Rattle.tb_memmap.proofs.View.{zeros}
use Rattle.tb_machine_profile.proofs.tally.Tally.new.Goals as goal

zeros_at : (xs : List ℕ) → xs ≡ replicate 65536 0 → (k : ℕ) → slice_index xs k ≡ 0
zeros_at xs h k = ap (λ ys. slice_index ys k) h ∙ zeros 65536 k

zeros_length : (xs : List ℕ) → xs ≡ replicate 65536 0 → length xs ≡ 65536
zeros_length xs h = ap length h ∙ length-replicate {A = ℕ} 65536 0

few : (xs : List ℕ) → xs ≡ replicate 65536 0 → (k : ℕ) → slice_index xs k ≤ 0
few xs h k = omega (arith, zeros_at xs h k)

pub invariant_of-result : goal.invariant_of-result
invariant_of-result c = (
  c.in_ok-marks.ensures.0,
  search rules,
  search rules,
  search rules,
  few _ c.in_ok-zeros.ensures,
  few _ c.in_ok-zeros-2.ensures,
  few _ c.in_ok-zeros-3.ensures,
  omega arith,
)

pub returns : goal.returns
returns c =
    record {
      whole = (
        search rules,
        zeros_length _ c.in_ok-zeros.ensures,
        zeros_length _ c.in_ok-zeros-2.ensures,
        zeros_length _ c.in_ok-zeros-3.ensures,
      );
      begins = c.in_ok-marks.ensures.1;
      times = λ a inside. zeros_at _ c.in_ok-zeros.ensures a;
      instructions = λ a inside. zeros_at _ c.in_ok-zeros-2.ensures a;
      cycles = λ a inside. zeros_at _ c.in_ok-zeros-3.ensures a;
      line = refl;
      taken = refl;
      spent = refl;
    }
