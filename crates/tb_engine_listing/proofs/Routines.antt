-- The name of a routine, looked for among all of them.
use Rattle.std.proofs.Common.{◌≡◌, ℕ, ◌+◌, ◌<◌, Bool, true, false, eqb, List, length, drop, get_or, if◌then◌else◌, ap, sym, ◌∙◌, true≢false}
use Rattle.std.proofs.lemmas.List.{drop_more}
use Rattle.tb_runtime16.specs.Addresses.{entry_of}
use Rattle.tb_runtime16.specs.declared.addresses.Routine.{Routine}
use Rattle.tb_engine_listing.specs.Labels.{name_of}
use Rattle.tb_engine_listing.specs.PlaceNames.{routine_at}

-- one more routine does not begin there
pub routine_more : (rs : List Routine) (i : ℕ) (d : Routine) (at : ℕ) (whole : List ℕ) → i < length rs → eqb (entry_of (get_or rs i d)) at ≡ false
    → routine_at (drop i rs) at ≡ whole → routine_at (drop (i + 1) rs) at ≡ whole
routine_more rs i d at whole l off h =
    by (eqb (entry_of (get_or rs i d)) at) off (ap (λ xs. routine_at xs at) (sym (drop_more rs i d l)) ∙ h)
  where
    by : (b : Bool) → b ≡ false → (if b then name_of (get_or rs i d) else routine_at (drop (i + 1) rs) at) ≡ whole → routine_at (drop (i + 1) rs) at ≡ whole
    by true off e = absurd (true≢false off)
    by false off e = e
