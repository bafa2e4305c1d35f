-- How commands over files end.
use Rattle.std.specs.Prelude.{◌≡◌, ℕ, List, Option, Result, Ok, Err}
use Rattle.tb_engine_streams.specs.Failures.{failures_of}
use Rattle.tb_engine_streams.specs.Numbers.{DONE, REFUSED}
use Rattle.tb_engine_streams.specs.Outcomes.{Failure}
use Rattle.tb_engine_streams.specs.declared.outcome.Outcome.TheVariants as outcome
use Rattle.tb_engine_streams.specs.declared.tracked.Tracked.{Tracked}
use Rattle.tb_engine_files.specs.Deeds.{Deed, Opens, Saves}
use Rattle.tb_engine_files.specs.declared.system.Trouble.TheVariants as trouble
use Rattle.tb_engines.specs.Outcomes.{Outcome}
use Rattle.tb_engines.specs.declared.outcome.End.TheVariants as ends
use Rattle.tb_engines.specs.declared.outcome.Refusal.{Refusal as EngineRefusal}
use Rattle.tb_basic_renumber.specs.declared.refusals.Refusal.{Refusal}
use Rattle.tb_basic_renumber.specs.declared.refusals.Refusal.TheVariants as refusal
use Rattle.tb_program_files.specs.declared.formatting.Tidiness.{Tidiness}
use Rattle.tb_program_files.specs.declared.formatting.Tidiness.TheVariants.{Done, Untidy}
use Rattle.tb_program_files.specs.declared.renumbering.RenumberRefusal.{RenumberRefusal}
use Rattle.tb_program_files.specs.declared.renumbering.RenumberRefusal.TheVariants.{Source, Renumber}

-- the exit status of formatting whose texts were written
abbrev pub status_of_tidiness : Tidiness → ℕ
status_of_tidiness Done = DONE
status_of_tidiness Untidy = REFUSED

-- how renumbering ends where the source is not compiled
abbrev pub of_source : Failure EngineRefusal → Failure RenumberRefusal
of_source (outcome.Refused e) = outcome.Refused (Source e)
of_source outcome.ReadFault = outcome.ReadFault
of_source outcome.WriteFault = outcome.WriteFault
of_source outcome.NoMemory = outcome.NoMemory
of_source (outcome.Ended never) = elim never [ ]

-- how it ends where a compiled source is not renumbered
abbrev pub of_refusal : Refusal → Failure RenumberRefusal
of_refusal refusal.NoMemory = outcome.NoMemory
of_refusal e = outcome.Refused (Renumber e)

-- what opening a file did, by what it answered: a reader of what the file holds, or why there is none
abbrev pub OpensFile : {F I : Type 0} → (F → Deed → F → Type 0) → (F → List ℕ → Option (List ℕ) → Type 0) → (I → Option (List ℕ))
    → F → List ℕ → Result (Tracked I) Outcome → F → Type 0
OpensFile does holds remaining f path (Ok input) g =
    does f (Opens path (Ok tt)) g × holds f path (remaining input.stream) × (failures_of input ≡ 0)
OpensFile does holds remaining f path (Err outcome.ReadFault) g = does f (Opens path (Err trouble.Fault)) g
OpensFile does holds remaining f path (Err outcome.NoMemory) g = does f (Opens path (Err trouble.NoMemory)) g
OpensFile does holds remaining f path (Err (outcome.Ended end)) g = ⊥
OpensFile does holds remaining f path (Err (outcome.Refused e)) g = ⊥
OpensFile does holds remaining f path (Err outcome.WriteFault) g = ⊥

-- what writing a file did, by how it ended
abbrev pub SavesFile : {F : Type 0} → (F → Deed → F → Type 0) → F → List ℕ → List ℕ → Outcome → F → Type 0
SavesFile does f path bytes (outcome.Ended end) g = (end ≡ ends.Done) × does f (Saves path bytes (Ok tt)) g
SavesFile does f path bytes outcome.WriteFault g = does f (Saves path bytes (Err trouble.Fault)) g
SavesFile does f path bytes outcome.NoMemory g = does f (Saves path bytes (Err trouble.NoMemory)) g
SavesFile does f path bytes (outcome.Refused e) g = ⊥
SavesFile does f path bytes outcome.ReadFault g = ⊥
