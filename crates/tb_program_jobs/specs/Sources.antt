-- What jobs run and compile.
use Rattle.std.specs.Prelude.{ℕ, Bool, true, false, List, Option, Some, None, string_bytes}
use Rattle.tb_program_jobs.specs.declared.jobs.Runnable.{Runnable}
use Rattle.tb_program_jobs.specs.declared.jobs.Runnable.TheVariants.{Source, Prg}
use Rattle.tb_program_jobs.specs.declared.jobs.SourceOptions.{SourceOptions}
use Rattle.tb_program_jobs.specs.declared.sources.Compiles.{Compiles}
use Rattle.tb_program_jobs.specs.declared.jobs.Job.{Job}
use Rattle.tb_program_jobs.specs.declared.jobs.Job.TheVariants.{Build, Run, Play, Test, Asm, Assemble, Dis, Step, Debug, Profile, Page, Disk, Check, Format, Renumber, Lsp, Dap, Show}

-- what a job runs, plays, steps through, debugs or profiles
abbrev pub runs : Job → Option Runnable
runs (Run j) = Some j.what
runs (Play j) = Some j.what
runs (Step j) = Some j.what
runs (Debug j) = Some j.what
runs (Profile j) = Some j.what
runs (Build j) = None
runs (Test j) = None
runs (Asm j) = None
runs (Assemble j) = None
runs (Dis j) = None
runs (Page j) = None
runs (Disk j) = None
runs (Check j) = None
runs (Format j) = None
runs (Renumber j) = None
runs (Lsp notation) = None
runs (Dap notation) = None
runs (Show text) = None

-- a source's path, and how it is compiled
abbrev pub pair_of : Compiles → List ℕ × SourceOptions
pair_of c = (c.source.now, c.options)

-- what is compiled of what a job takes: a source
abbrev pub compiled_of : Runnable → SourceOptions → Option (List ℕ × SourceOptions)
compiled_of (Source program) options = Some (string_bytes program, options)
compiled_of (Prg program) options = None

-- what a job compiles, and how; what a source costs doesn't matter where it is renumbered
abbrev pub compiles : Job → Option (List ℕ × SourceOptions)
compiles (Build j) = Some (string_bytes j.source, j.options)
compiles (Renumber j) = Some (string_bytes j.source, record { seed = None; fit = true; notation = j.notation })
compiles (Run j) = compiled_of j.what j.settings.options
compiles (Play j) = compiled_of j.what j.options
compiles (Step j) = compiled_of j.what j.settings.options
compiles (Debug j) = compiled_of j.what j.settings.options
compiles (Profile j) = compiled_of j.what j.settings.options
compiles (Page j) = compiled_of j.what j.options
compiles (Test j) = None
compiles (Asm j) = None
compiles (Assemble j) = None
compiles (Dis j) = None
compiles (Disk j) = None
compiles (Check j) = None
compiles (Format j) = None
compiles (Lsp notation) = None
compiles (Dap notation) = None
compiles (Show text) = None

-- the seed among these options, if there are any
abbrev pub seed_in : Option (List ℕ × SourceOptions) → Option ℕ
seed_in (Some compiled) = compiled.1.seed
seed_in None = None

-- the seed by which a job compiles a source, if it does and the words say one
abbrev pub seed_of : Job → Option ℕ
seed_of j = seed_in (compiles j)

-- whether a job plays a program
abbrev pub is_played : Job → Bool
is_played (Play j) = true
is_played (Build j) = false
is_played (Run j) = false
is_played (Test j) = false
is_played (Asm j) = false
is_played (Assemble j) = false
is_played (Dis j) = false
is_played (Step j) = false
is_played (Debug j) = false
is_played (Profile j) = false
is_played (Page j) = false
is_played (Disk j) = false
is_played (Check j) = false
is_played (Format j) = false
is_played (Renumber j) = false
is_played (Lsp notation) = false
is_played (Dap notation) = false
is_played (Show text) = false
