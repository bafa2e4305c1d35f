-- What the compiler says of its own programs: each has the bytes of its settled templates.
use Rattle.std.specs.Prelude.{ℕ}
use Rattle.tb_asm.specs.Layout.{size}
use Rattle.tb_asm.specs.Settle.{items_from}
use Rattle.tb_basic_syntax.specs.Source.{Program}
use Rattle.tb_lower.specs.Lowered as lowered
use Rattle.tb_runtime16.specs.Addresses.{PROLOGUE_AT}
use Rattle.tb_assembly_settling.proofs.Rounds.{rounds_end}
use Rattle.tb_compiler_program.specs.Program.{program_code}
use Rattle.tb_codegen.specs.Compiled.{IsLinked}
use Rattle.tb_compiled.specs.Promise.{Own}

-- how many bytes a program's code takes once it is settled: with each first state of RND as with 0
abbrev pub takes : Program → ℕ
takes program = size (items_from PROLOGUE_AT (rounds_end PROLOGUE_AT (program_code 0 (lowered.program_code program))).0)

-- the compiler's own: a program is linked from its settled templates, and takes what these take
abbrev pub templates : Own
templates = record { makes = IsLinked; takes = takes }
