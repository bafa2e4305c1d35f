-- One file against one other.
use Rattle.std.proofs.Common.{◌≡◌, Bool, true, false, [], ◌∷◌, refl}
use Rattle.std.specs.Prelude.{◌||◌}
use Rattle.tb_engine_files.specs.Places.{clashes, is_same}
use Rattle.tb_engine_files.specs.declared.places.Named.{Named}

-- a test that nothing is added to
or_nothing : (b : Bool) → ((b || false) || false) ≡ b
or_nothing true = refl
or_nothing false = refl

-- one file clashes with one other exactly if they are the same
pub alone : (w k : Named) → is_same w k ≡ clashes (k ∷ []) (w ∷ [])
alone w k = elim (is_same w k) as (λ b. b ≡ ((b || false) || false)) [ true ↦ refl | false ↦ refl ]
