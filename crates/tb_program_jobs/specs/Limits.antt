-- What every job that the command line gives keeps.
use Rattle.std.specs.Prelude.{◌≤◌, ⊤}
use Rattle.tb_engines.specs.Numbers.{MOST_EVENTS}
use Rattle.tb_program_jobs.specs.declared.jobs.Limit.{Limit}
use Rattle.tb_program_jobs.specs.declared.jobs.Job.{Job}
use Rattle.tb_program_jobs.specs.declared.jobs.Job.TheVariants.{Build, Run, Play, Test, Asm, Assemble, Dis, Step, Debug, Profile, Page, Disk, Check, Format, Renumber, Lsp, Dap, Show}

-- a limit of 1 to MOST_EVENTS events
abbrev pub IsWithin : Limit → Type 0
IsWithin limit = (1 ≤ limit.events) × (limit.events ≤ MOST_EVENTS)

-- a run takes 1 to MOST_EVENTS events
abbrev pub IsWithinLimit : Job → Type 0
IsWithinLimit (Build j) = ⊤
IsWithinLimit (Run j) = IsWithin j.settings.limit
IsWithinLimit (Play j) = IsWithin j.limit
IsWithinLimit (Test j) = ⊤
IsWithinLimit (Asm j) = ⊤
IsWithinLimit (Assemble j) = ⊤
IsWithinLimit (Dis j) = ⊤
IsWithinLimit (Step j) = IsWithin j.settings.limit
IsWithinLimit (Debug j) = IsWithin j.settings.limit
IsWithinLimit (Profile j) = IsWithin j.settings.limit
IsWithinLimit (Page j) = ⊤
IsWithinLimit (Disk j) = ⊤
IsWithinLimit (Check j) = ⊤
IsWithinLimit (Format j) = ⊤
IsWithinLimit (Renumber j) = ⊤
IsWithinLimit (Lsp notation) = ⊤
IsWithinLimit (Dap notation) = ⊤
IsWithinLimit (Show text) = ⊤
