-- A fault that a line finds by itself: its number and the line are handed over in registers.
use Rattle.std.proofs.Common.{ℕ, ◌+◌, ◌<◌, List, [], ◌∷◌, refl}
use Rattle.tb_basic_meaning.specs.Control.{fault_text}
use Rattle.tb_machine_reaching.proofs.Placed.{along}
use Rattle.tb_machine_reaching.specs.Start.{IsHome}
use Rattle.tb_machine_reaching.specs.View.{Fits, view}
use Rattle.tb_runtime16.specs.Routines.{Entered, Here, Moves}
use Rattle.tb_proof_simulation.proofs.Pieces.{whatever}
use Rattle.tb_proof_simulation.proofs.Resolved.{Code, Lies, faulting}
use Rattle.tb_proof_correctness.proofs.Relation.Surroundings.{Serves, Surroundings}

module _ (around : Surroundings) (fits : Fits around.f 16) (limit : ℕ) (rs : Serves around limit) where
  open around use {f, lo, hi}

  -- a fault that the line's code hands over sends its text and ends the program
  pub faults_at : (n k : ℕ) → n < 65536 → k < 10 → (at : ℕ) (m : ℕ → ℕ) (text answers : List ℕ) → Lies f.code at (Code (faulting n k) ∷ [])
      → Entered f lo hi m → Moves f (Here at (lo ∷ hi ∷ []) m text answers) (IsHome f) (fault_text k n) (4 + limit)
  faults_at n k small few at m text answers lies homed =
      whatever f 16 fits at (lo ∷ hi ∷ []) m text answers (IsHome f) (fault_text k n) (4 + limit) (λ a x y n' v i z c.
      along f 16 fits (faulting n k) at (view a x y n' v i z c at (lo ∷ hi ∷ []) m text answers) _ (IsHome f) (fault_text k n) limit lies.1 (
        refl,
        refl,
        (refl, refl, (refl, refl, (refl, refl, tt))),
      ) refl
      (rs.fault_line k few m text answers n small homed _ (record {
        with_a = record { here = record { pc = refl; stack = refl; binary = refl; mem = refl; text = refl; answers = refl }; number = refl };
        low = refl;
        high = refl;
      })))
