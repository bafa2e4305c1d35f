-- How assembling fails.
use Rattle.std.specs.Prelude.{ℕ}
use Rattle.tb_engine_streams.specs.Numbers.{REFUSED, BAD_WORDS}
use Rattle.tb_engine_streams.specs.Outcomes.{Failure}
use Rattle.tb_engine_streams.specs.declared.outcome.Outcome.TheVariants.{WriteFault, NoMemory}
use Rattle.tb_engine_files.specs.declared.system.Trouble.{Trouble}
use Rattle.tb_engine_files.specs.declared.system.Trouble.TheVariants as trouble
use Rattle.tb_assembly_engine.specs.declared.outcome.TextRefusal.{TextRefusal}
use Rattle.tb_assembly_engine.specs.declared.outcome.TextRefusal.TheVariants.{Said, Item, TooManyFiles, SameFile, IsSource, Unlike}

-- why a text was not assembled and written
abbrev pub TextFailure : Type 0
TextFailure = Failure TextRefusal

-- how it ends if a file can't be written
abbrev pub unwritten : Trouble → TextFailure
unwritten trouble.Fault = WriteFault
unwritten trouble.NoMemory = NoMemory

-- the exit status by why it is refused
abbrev pub status_of : TextRefusal → ℕ
status_of (Said text) = REFUSED
status_of (Item e) = REFUSED
status_of TooManyFiles = REFUSED
status_of SameFile = BAD_WORDS
status_of (IsSource path) = BAD_WORDS
status_of (Unlike path kind) = BAD_WORDS
