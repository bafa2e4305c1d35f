-- Which jobs are strict.
use Rattle.std.specs.Prelude.{Bool, false}
use Rattle.tb_program_jobs.specs.declared.jobs.Job.{Job}
use Rattle.tb_program_jobs.specs.declared.jobs.Job.TheVariants.{Build, Run, Play, Test, Asm, Assemble, Dis, Step, Debug, Profile, Page, Disk, Check, Format, Renumber, Lsp, Dap, Show}

-- whether a fault of the program that a job runs has a status of its own
abbrev pub is_strict : Job → Bool
is_strict (Run j) = j.strict
is_strict (Play j) = j.strict
is_strict (Build j) = false
is_strict (Test j) = false
is_strict (Asm j) = false
is_strict (Assemble j) = false
is_strict (Dis j) = false
is_strict (Step j) = false
is_strict (Debug j) = false
is_strict (Profile j) = false
is_strict (Page j) = false
is_strict (Disk j) = false
is_strict (Check j) = false
is_strict (Format j) = false
is_strict (Renumber j) = false
is_strict (Lsp notation) = false
is_strict (Dap notation) = false
is_strict (Show text) = false
