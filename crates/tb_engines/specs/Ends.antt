-- How a run ended, and what is told of that.
use Rattle.std.specs.Prelude.{ℕ, ◌≡◌, List, Option, Some, None, Result, Ok, Err}
use Rattle.tb_kernal.specs.declared.events.Event.{Event}
use Rattle.tb_kernal.specs.Machine.{Content, state_of, status}
use Rattle.tb_kernal.specs.Sending.{KnowsLast, with_earlier}
use Rattle.tb_kernal.specs.declared.status.Status.{Status}
use Rattle.tb_kernal.specs.declared.status.Status.TheVariants.{Returned}
use Rattle.tb_kernal.specs.Hearing.{Hearing, RanWatched}
use Rattle.tb_engine_streams.specs.Streams.{Reads}
use Rattle.tb_engine_streams.specs.Uses.{Use}
use Rattle.tb_engine_streams.specs.declared.outcome.Outcome.TheVariants.{Ended, Refused, ReadFault, WriteFault, NoMemory}
use Rattle.tb_engines.specs.Programs.{Settings, StartsPrg, end_of}
use Rattle.tb_engines.specs.Writing.{kept_sent}
use Rattle.tb_engines.specs.declared.outcome.End.{End}
use Rattle.tb_engines.specs.Outcomes.{Outcome}

-- a run of a machine, of which a watch hears: how it ended, and the machine then
pub record RunsTo {O W : Type 0} (gives : O → Content → Event → O → Type 0) (o : O) (limit : ℕ) (watch : Hearing W) (start : Content)
    (end : End) (n : Content) : Type 0 where
  pub answer : Status
  pub left : O
  pub ran : RanWatched gives watch.hears o start watch.before limit (Ok answer) left n watch.after
  pub how : end ≡ end_of answer n.regs.pc

-- how a run of a PRG file from its start machine ends
abbrev pub EndsAs : {O W : Type 0} → Settings O → Hearing W → List ℕ → End → Content → Type 0
EndsAs s watch file end n = (start : Content) × StartsPrg s.text s.answers file (Ok start) × RunsTo s.gives s.outside s.limit watch start end n

-- what holds of a run whose output was written, or failed to be
abbrev pub OfRun : {A : Type 0} → Outcome → Option A → Option A → Type 0
OfRun (Ended end) wanted told = told ≡ wanted
OfRun WriteFault wanted told = told ≡ wanted
OfRun (Refused e) wanted told = told ≡ None
OfRun ReadFault wanted told = told ≡ None
OfRun NoMemory wanted told = told ≡ None

-- a machine to which a run led that ended so; of what it sent it may have forgotten the beginning
pub record RestsOfRun {O W : Type 0} (gives : O → Content → Event → O → Type 0) (o : O) (limit : ℕ) (watch : Hearing W) (start : Content)
    (end : End) (n : Content) : Type 0 where
  pub earlier : List ℕ
  pub known : KnowsLast kept_sent earlier n.sent
  pub ran : RunsTo gives o limit watch start end (with_earlier earlier n)

-- the machine that a run leaves, by how that ended: if there was one, the machine to which it led
abbrev pub LeavesRun : {O W : Type 0} → (O → Content → Event → O → Type 0) → O → ℕ → Hearing W → Content → Outcome → Content → Type 0
LeavesRun gives o limit watch start (Ended end) n = RestsOfRun gives o limit watch start end n
LeavesRun gives o limit watch start WriteFault n = (end : End) × RestsOfRun gives o limit watch start end n
LeavesRun gives o limit watch start (Refused e) n = ⊥
LeavesRun gives o limit watch start ReadFault n = ⊥
LeavesRun gives o limit watch start NoMemory n = Unit {0}

-- what is told by how a call ended: where its text was written, or failed to be, what is told of a run
abbrev pub ByOutcome : {A : Type 0} → (End → Option A → Type 0) → Outcome → Option A → Type 0
ByOutcome Tells (Ended end) told = Tells end told
ByOutcome Tells WriteFault told = (end : End) × Tells end told
ByOutcome Tells (Refused e) told = told ≡ None
ByOutcome Tells ReadFault told = told ≡ None
ByOutcome Tells NoMemory None = Unit {0}
ByOutcome Tells NoMemory (Some told) = (end : End) × Tells end (Some told)

-- where the program counter of a machine is, unless its program returned
abbrev pub end_place : Status → ℕ → Option ℕ
end_place Returned pc = None
end_place _ pc = Some pc

-- the place that is told of a run that ended so is that of its machine
abbrev pub TellsPlace : {O W : Type 0} → Settings O → Hearing W → List ℕ → End → Option ℕ → Type 0
TellsPlace s watch file end place = (n : Content) × EndsAs s watch file end n × (place ≡ end_place (status (state_of n)) n.regs.pc)

-- the place that is told of a run of a PRG file that is read is its machine's
abbrev pub TellsFile : {O W : Type 0} → Settings O → Hearing W → Use → End → Option ℕ → Type 0
TellsFile s watch reader end place = (file : List ℕ) × Reads reader.old file × TellsPlace s watch file end place
