-- Disks that are not made before any file is opened.
use Rattle.std.proofs.Common.{ℕ, List, Option, inl, refl}
use Rattle.tb_engine_files.specs.Deeds.{Deed, Transfers}
use Rattle.tb_engine_streams.specs.declared.outcome.Done.{Done}
use Rattle.tb_engine_streams.specs.declared.outcome.Outcome.TheVariants as outcome
use Rattle.tb_engine_disk.specs.declared.outcome.DiskRefusal.{DiskRefusal}

module _ {F : Type 0} (does : F → Deed → F → Type 0) (holds : F → List ℕ → Option (List ℕ) → Type 0) (f : F) where
  -- a disk was refused
  pub disk_refused : (makes : Done → List (List ℕ) → List (List ℕ) → Type 0) (inputs outputs : List (List ℕ)) (e : DiskRefusal)
      → Transfers does holds makes f inputs outputs (outcome.Refused e) f
  disk_refused makes inputs outputs e = inl (0, refl)

  -- there was no memory for a disk
  pub disk_unmade : (makes : Done → List (List ℕ) → List (List ℕ) → Type 0) (inputs outputs : List (List ℕ))
      → Transfers {R = DiskRefusal} does holds makes f inputs outputs outcome.NoMemory f
  disk_unmade makes inputs outputs = inl (inl (0, refl))

-- a disk was not made
pub ruleset undone = (disk_refused, disk_unmade)
