-- What is debugged: the program of a source, or any other, in which each address is a line whose number is the address.
use Rattle.std.specs.Prelude.{ℕ, Bool, true, false, nat_lt, List, [], length, Option, Some, None}
use Rattle.tb_compiled.specs.Compiled.{line_in, start_in, starts_of, table_of}
use Rattle.tb_compiled.specs.declared.compiled.Compiled.{Compiled}
use Rattle.tb_debug.specs.Lines.{line_at}
use Rattle.tb_debug.specs.Readings.{returns_of}
use Rattle.tb_debug.specs.Runs.{begins_at}
use Rattle.tb_debug.specs.declared.debuggee.Debuggee.{Debuggee}
use Rattle.tb_debug.specs.declared.debuggee.Debuggee.TheVariants.{Source, Prg}

-- there is no source
abbrev pub has_no_source : Debuggee → Bool
has_no_source (Source program) = false
has_no_source Prg = true

-- the program of a source
abbrev pub program_of : Debuggee → Option Compiled
program_of (Source program) = Some program.now
program_of Prg = None

-- a line begins at an address
abbrev pub begins_in : Debuggee → ℕ → Bool
begins_in (Source program) a = begins_at (starts_of program.now) a
begins_in Prg a = nat_lt a 65536

-- the line that begins at an address
abbrev pub line_from : Debuggee → ℕ → Option ℕ
line_from (Source program) a = line_at (starts_of program.now) a
line_from Prg a = Some a

-- the address where a line begins
abbrev pub start_from : Debuggee → ℕ → Option ℕ
start_from (Source program) line = start_in (starts_of program.now) line
start_from Prg line = Some line

-- the lines to return to by a memory, the newest first
abbrev pub returns_from : Debuggee → (ℕ → ℕ) → List (Option ℕ)
returns_from (Source program) m = returns_of (starts_of program.now) m
returns_from Prg m = []

-- how many lines there are to return to by a memory
abbrev pub depth_from : Debuggee → (ℕ → ℕ) → ℕ
depth_from debuggee m = length (returns_from debuggee m)

-- the line of the source in whose code an address lies
abbrev pub code_line_of : Debuggee → ℕ → Option ℕ
code_line_of (Source program) a = line_in (starts_of program.now) (table_of program.now) a
code_line_of Prg a = None
