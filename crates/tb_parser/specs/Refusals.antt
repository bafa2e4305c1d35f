-- Refusals of a line and of a file.
use Rattle.std.specs.Prelude.{ℕ}
use Rattle.tb_parser.specs.declared.errors.LineFault.{LineFault}
use Rattle.tb_parser.specs.declared.errors.SourceError.{SourceError}
use Rattle.tb_parser.specs.declared.errors.SourceErrorKind.{SourceErrorKind}
use Rattle.tb_parser.specs.declared.errors.SourceErrorKind.TheVariants.{NoMemory}

-- out of memory, which has no place
abbrev pub out_of_memory : SourceError
out_of_memory = record { kind = NoMemory; line = 0; column = 0 }

-- out of memory, as a fault of a line
abbrev pub fault_of_memory : LineFault
fault_of_memory = record { kind = NoMemory; column = 0 }

-- a fault of a line of a file
abbrev pub error_at : SourceErrorKind → ℕ → ℕ → SourceError
error_at NoMemory line column = out_of_memory
error_at kind line column = record { kind = kind; line = line; column = column }

-- a fault of a line of a file, from a fault as the crate keeps it
abbrev pub at_line : ℕ → LineFault → SourceError
at_line line fault = error_at fault.kind line fault.column
