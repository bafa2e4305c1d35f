-- The exit status of a strict run.
use Rattle.std.specs.Prelude.{ℕ, ◌≡◌, Option, Some, None}
use Rattle.tb_engine_streams.specs.declared.outcome.Outcome.TheVariants.{Ended, Refused, ReadFault, WriteFault, NoMemory}
use Rattle.tb_engines.specs.Outcomes.{Outcome, status_of, status_of_end}
use Rattle.tb_engines.specs.declared.outcome.End.{End}
use Rattle.tb_engine_sources.specs.declared.notes.EndNote.{EndNote}
use Rattle.tb_engine_sources.specs.declared.notes.EndNote.TheVariants.{Running, Waits, Fault}
use Rattle.tb_engine_sources.specs.declared.strictness.TheConstants as code

-- a fault ended the program of a strict run: no other ending has this status
abbrev pub FAULTED : ℕ
FAULTED = 8

-- the status of a run that ended, by what its machine told
abbrev pub status_by : End → Option EndNote → ℕ
status_by end (Some (Fault f)) = FAULTED
status_by end (Some (Running line)) = status_of_end end
status_by end (Some (Waits line)) = status_of_end end
status_by end None = status_of_end end

-- the status of a strict run: its outcome's, but that of a fault if one ended it
abbrev pub strict_status : Outcome → Option EndNote → ℕ
strict_status (Ended end) told = status_by end told
strict_status (Refused e) told = status_of (Refused e)
strict_status ReadFault told = status_of ReadFault
strict_status WriteFault told = status_of WriteFault
strict_status NoMemory told = status_of NoMemory

-- the constant of the code is this number
abbrev pub FaultedIsNumber : Type 0
FaultedIsNumber = code.FAULTED ≡ FAULTED
