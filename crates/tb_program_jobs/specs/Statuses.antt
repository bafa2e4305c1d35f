-- The exit statuses where no engine is called.
use Rattle.std.specs.Prelude.{ℕ}
use Rattle.tb_engine_streams.specs.Numbers.{BAD_WORDS, FAULT, NO_MEMORY, REFUSED}
use Rattle.tb_program_jobs.specs.declared.failure.Failure.{Failure}
use Rattle.tb_program_jobs.specs.declared.failure.Failure.TheVariants.{Words, NotUtf8, BadKeys, BadAddress, SameFile, IsSource, Unlike, BadLabels, NoTerminal, SmallTerminal, ReadFault, NoClock, NoMemory}

-- the exit status by why no engine is called
abbrev pub status_of : Failure → ℕ
status_of (Words text) = BAD_WORDS
status_of NotUtf8 = BAD_WORDS
status_of BadKeys = BAD_WORDS
status_of BadAddress = BAD_WORDS
status_of SameFile = BAD_WORDS
status_of (IsSource path) = BAD_WORDS
status_of (Unlike path kind) = BAD_WORDS
status_of (BadLabels line) = REFUSED
status_of NoTerminal = BAD_WORDS
status_of SmallTerminal = BAD_WORDS
status_of ReadFault = FAULT
status_of NoClock = FAULT
status_of NoMemory = NO_MEMORY
