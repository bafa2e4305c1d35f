-- Marks of addresses, and counts with more at an address.
use Rattle.std.proofs.Common.{◌≡◌, ℕ, ◌+◌, ◌<◌, true, false, List, length, sym, ap, ◌∙◌, arith, inl, inr, slice_index}
use Rattle.std.specs.Prelude.{◌==◌, if◌then◌else◌}
use Rattle.std.proofs.lemmas.Bool.{cases_eq}
use Rattle.std.proofs.lemmas.Bool.Decides.{nat_tests}
use Rattle.std.proofs.lemmas.Grind.{get_or-set_at}
use Rattle.std.proofs.lemmas.List.{get_or-set_other}
use Rattle.tb_machine_profile.specs.Tallies.{with_more}

-- the count at an address, if a count has grown
pub more_at : (xs : List ℕ) (p a more old : ℕ) → a < length xs → slice_index xs a ≡ old
    → slice_index (with_more xs p more) a ≡ old + (if p == a then more else 0)
more_at xs p a more old inside h =
    elim (cases_eq a p) [
      | inl same ↦
          let e : (p == a) ≡ true = grind (arith, nat_tests) in
          let there : slice_index (with_more xs p more) a ≡ slice_index xs p + more = get_or-set_at xs p a (slice_index xs p + more) 0 same (omega arith) in
          let here : slice_index xs p ≡ old = ap (slice_index xs) (sym same) ∙ h in
          there ∙ ap (λ n. n + more) here ∙ sym (ap (λ b. old + (if b then more else 0)) e)
      | inr other ↦
          let e : (p == a) ≡ false = grind (arith, nat_tests) in
          let there : slice_index (with_more xs p more) a ≡ slice_index xs a = get_or-set_other xs p a (slice_index xs p + more) 0 other in
          let nothing : old ≡ old + 0 = omega arith in
          there ∙ h ∙ nothing ∙ sym (ap (λ b. old + (if b then more else 0)) e)
    ]
