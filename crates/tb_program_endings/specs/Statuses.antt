-- The exit status of each ending.
use Rattle.std.specs.Prelude.{ℕ, Bool, true, false, Option, Some, None, nat_lt, if◌then◌else◌}
use Rattle.tb_assembly_engine.specs.Outcomes as assembly
use Rattle.tb_engine_check.specs.Outcomes as check
use Rattle.tb_engine_sources.specs.Strictness.{strict_status}
use Rattle.tb_engine_sources.specs.declared.notes.EndNote.{EndNote}
use Rattle.tb_engine_sources.specs.declared.notes.EndNote.TheVariants as note
use Rattle.tb_engine_streams.specs.Numbers.{DONE, FAULT, REFUSED}
use Rattle.tb_engine_streams.specs.Outcomes as streams
use Rattle.tb_engine_streams.specs.declared.outcome.Outcome.TheVariants as outcome
use Rattle.tb_engines.specs.Outcomes as engines
use Rattle.tb_lsp_server.specs.Outcomes as server
use Rattle.tb_program_files.specs.Outcomes.{status_of_tidiness}
use Rattle.tb_program_endings.specs.declared.ending.Ending.{Ending}
use Rattle.tb_program_endings.specs.declared.ending.Ending.TheVariants.{Report, Run, Test, Disk, Check, Format, Renumber, Text, Server, Adapter}
use Rattle.tb_program_endings.specs.declared.runs.Ran.{Ran}
use Rattle.tb_program_endings.specs.declared.runs.Ran.TheVariants.{Source, Plain}
use Rattle.tb_program_endings.specs.declared.tests.TestEnd.{TestEnd}
use Rattle.tb_program_endings.specs.declared.tests.TestEnd.TheVariants.{Passed, Failed, Fault}

-- the status of a run, strict or not: only that of a source tells of a fault
abbrev pub status_of_ran : Bool → Ran → ℕ
status_of_ran true (Source run) = strict_status run.report.outcome run.note
status_of_ran false (Source run) = engines.status_of run.report.outcome
status_of_ran is_strict (Plain outcome place) = engines.status_of outcome

-- what came of transcripts, by how many did not pass, and whether a file could not be read or written
abbrev pub end_of_tests : ℕ → Bool → TestEnd
end_of_tests failed has_fault = if has_fault then Fault else if nat_lt 0 failed then Failed else Passed

-- the status of a test by what came of its transcripts
abbrev pub status_of_test : TestEnd → ℕ
status_of_test Passed = DONE
status_of_test Failed = REFUSED
status_of_test Fault = FAULT

-- the status of a job by how it ended: that of its outcome
abbrev pub status_of_ending : Bool → Ending → ℕ
status_of_ending is_strict (Report report) = engines.status_of report.outcome
status_of_ending is_strict (Run ran) = status_of_ran is_strict ran
status_of_ending is_strict (Test o) = streams.status_of status_of_test (λ _. REFUSED) o
status_of_ending is_strict (Disk o) = streams.status_of (λ _. DONE) (λ _. REFUSED) o
status_of_ending is_strict (Check o) = streams.status_of check.status_of (λ _. REFUSED) o
status_of_ending is_strict (Format o) = streams.status_of status_of_tidiness (λ _. REFUSED) o
status_of_ending is_strict (Renumber o) = streams.status_of (λ _. DONE) (λ _. REFUSED) o
status_of_ending is_strict (Text o) = streams.status_of (λ _. DONE) assembly.status_of o
status_of_ending is_strict (Server o) = streams.status_of server.status_of (λ _. FAULT) o
status_of_ending is_strict (Adapter o) = streams.status_of (λ _. DONE) (λ _. FAULT) o

-- what is told of a play: its fault, where it ended
abbrev pub shown_fault : engines.Outcome → Option EndNote → Option EndNote
shown_fault (outcome.Ended end) (Some (note.Fault f)) = Some (note.Fault f)
shown_fault (outcome.Ended end) (Some (note.Running line)) = None
shown_fault (outcome.Ended end) (Some (note.Waits line)) = None
shown_fault (outcome.Ended end) None = None
shown_fault (outcome.Refused e) n = None
shown_fault outcome.ReadFault n = None
shown_fault outcome.WriteFault n = None
shown_fault outcome.NoMemory n = None
