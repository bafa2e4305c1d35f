-- What helps with how a job ended.
use Rattle.std.specs.Prelude.{ℕ, Bool, true, false, Option, Some, None, Result, Ok, Err}
use Rattle.tb_assembly_engine.specs.declared.outcome.TextRefusal.{TextRefusal}
use Rattle.tb_engine_disk.specs.declared.outcome.DiskRefusal.{DiskRefusal}
use Rattle.tb_engine_sources.specs.declared.notes.EndNote.{EndNote}
use Rattle.tb_engine_sources.specs.declared.notes.EndNote.TheVariants as note
use Rattle.tb_engine_streams.specs.declared.outcome.Done.{Done}
use Rattle.tb_engine_streams.specs.declared.outcome.Outcome.{Outcome}
use Rattle.tb_engine_streams.specs.declared.outcome.Outcome.TheVariants.{Ended, Refused, ReadFault, WriteFault, NoMemory}
use Rattle.tb_engines.specs.Outcomes as engines
use Rattle.tb_engines.specs.declared.outcome.End.{End}
use Rattle.tb_engines.specs.declared.outcome.End.TheVariants.{Done as IsDone, StepLimit, WaitsForKey, WentWrong}
use Rattle.tb_engines.specs.declared.outcome.Refusal.TheVariants as refusal
use Rattle.tb_program_files.specs.declared.renumbering.RenumberRefusal.{RenumberRefusal}
use Rattle.tb_program_files.specs.declared.renumbering.RenumberRefusal.TheVariants as renumbering
use Rattle.tb_program_jobs.specs.Sources.{is_played}
use Rattle.tb_program_jobs.specs.declared.failure.Failure.{Failure}
use Rattle.tb_program_jobs.specs.declared.failure.Failure.TheVariants as failure
use Rattle.tb_program_jobs.specs.declared.jobs.Job.{Job}
use Rattle.tb_program_endings.specs.declared.ending.Ending.{Ending}
use Rattle.tb_program_endings.specs.declared.ending.Ending.TheVariants.{Report, Run, Test, Disk, Check, Format, Renumber, Text, Server, Adapter}
use Rattle.tb_program_endings.specs.declared.helping.Help.{Help}
use Rattle.tb_program_endings.specs.declared.helping.Help.TheVariants as help_by
use Rattle.tb_program_endings.specs.declared.runs.Ran.{Ran}
use Rattle.tb_program_endings.specs.declared.runs.Ran.TheVariants.{Source, Plain}

-- with how a machine ended; a player who gives no more keys needs no help
abbrev pub of_end : Bool → End → Help
of_end true WaitsForKey = help_by.Nothing
of_end false WaitsForKey = help_by.End (note.Waits None)
of_end is_played StepLimit = help_by.End (note.Running None)
of_end is_played IsDone = help_by.Nothing
of_end is_played (WentWrong wrong pc) = help_by.Nothing

-- with the outcome of an engine
abbrev pub of_outcome : Bool → engines.Outcome → Help
of_outcome is_played (Ended end) = of_end is_played end
of_outcome is_played (Refused (refusal.Source e)) = help_by.Source e
of_outcome is_played (Refused (refusal.TextLine line)) = help_by.Text (refusal.TextLine line)
of_outcome is_played (Refused (refusal.Item e)) = help_by.Text (refusal.Item e)
of_outcome is_played (Refused (refusal.Prg e)) = help_by.Prg (refusal.Prg e)
of_outcome is_played (Refused refusal.NotRam) = help_by.Prg refusal.NotRam
of_outcome is_played ReadFault = help_by.File
of_outcome is_played WriteFault = help_by.File
of_outcome is_played NoMemory = help_by.Nothing

-- with a run: what its machine told, if it told anything
abbrev pub of_source_run : Bool → engines.Outcome → Option EndNote → Help
of_source_run is_played outcome (Some told) = help_by.End told
of_source_run is_played outcome None = of_outcome is_played outcome

-- with a run of a source or of a PRG file
abbrev pub of_run : Bool → Ran → Help
of_run is_played (Source run) = of_source_run is_played run.report.outcome run.note
of_run is_played (Plain outcome place) = of_outcome is_played outcome

-- with a disk
abbrev pub of_disk : Outcome Done DiskRefusal → Help
of_disk (Ended done) = help_by.Replaced
of_disk (Refused e) = help_by.Disk e
of_disk ReadFault = help_by.File
of_disk WriteFault = help_by.File
of_disk NoMemory = help_by.Nothing

-- with a source that is refused, when it is renumbered
abbrev pub of_unnumbered : RenumberRefusal → Help
of_unnumbered (renumbering.Source e) = of_outcome false (Refused e)
of_unnumbered e = help_by.Nothing

-- with a source that is renumbered
abbrev pub of_renumbering : Outcome Done RenumberRefusal → Help
of_renumbering (Ended done) = help_by.Nothing
of_renumbering (Refused e) = of_unnumbered e
of_renumbering ReadFault = help_by.File
of_renumbering WriteFault = help_by.File
of_renumbering NoMemory = help_by.Nothing

-- with an outcome of which files alone are told
abbrev pub of_files : {E R : Type 0} → Outcome E R → Help
of_files (Ended done) = help_by.Nothing
of_files (Refused e) = help_by.Nothing
of_files ReadFault = help_by.File
of_files WriteFault = help_by.File
of_files NoMemory = help_by.Nothing

-- with a check: each of its sources may be what can't be read
abbrev pub of_check : {E R : Type 0} → Outcome E R → Help
of_check (Ended done) = help_by.Nothing
of_check (Refused e) = help_by.Nothing
of_check ReadFault = help_by.Sources
of_check WriteFault = help_by.Nothing
of_check NoMemory = help_by.Nothing

-- with an ending; servers tell their clients
abbrev pub of_ending : Bool → Ending → Help
of_ending is_played (Report report) = of_outcome is_played report.outcome
of_ending is_played (Run ran) = of_run is_played ran
of_ending is_played (Test o) = of_files o
of_ending is_played (Disk o) = of_disk o
of_ending is_played (Check o) = of_check o
of_ending is_played (Format o) = of_files o
of_ending is_played (Renumber o) = of_renumbering o
of_ending is_played (Text o) = of_files o
of_ending is_played (Server o) = help_by.Nothing
of_ending is_played (Adapter o) = help_by.Nothing

-- with why a job did not begin
abbrev pub of_failure : Failure → Help
of_failure failure.SameFile = help_by.Clash
of_failure (failure.BadLabels line) = help_by.Labels line
of_failure failure.ReadFault = help_by.File
of_failure e = help_by.Nothing

-- with how a job ended, or with why it did not begin
abbrev pub help_for : Job → Result Ending Failure → Help
help_for job (Ok ending) = of_ending (is_played job) ending
help_for job (Err e) = of_failure e
