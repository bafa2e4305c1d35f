-- Transfers by another account of what is made.
use Rattle.std.proofs.Common.{ℕ, List, Option, inl, inr}
use Rattle.tb_engine_files.specs.Deeds.{Deed, Transfers}
use Rattle.tb_engine_streams.specs.declared.outcome.Outcome.{Outcome}

module _ {F E R : Type 0} (does : F → Deed → F → Type 0) (holds : F → List ℕ → Option (List ℕ) → Type 0) (these those : E → List (List ℕ) → List (List ℕ) → Type 0)
    (law : (end : E) (all texts : List (List ℕ)) → these end all texts → those end all texts) (f : F) (inputs outputs : List (List ℕ)) where
  -- a transfer by one account of what is made is one by another that follows from it
  pub transfers_by : (ended : Outcome E R) (g : F) → Transfers does holds these f inputs outputs ended g → Transfers does holds those f inputs outputs ended g
  transfers_by ended g (inl nothing) = inl nothing
  transfers_by ended g (inr (end, h, texts, (all, made, read), writes)) = inr (end, h, texts, (all, law end all texts made, read), writes)
