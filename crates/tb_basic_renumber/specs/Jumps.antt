-- Jumps that can't be renumbered.
use Rattle.std.specs.Prelude.{ℕ, List, [], ◌∷◌, Option, Some, None, if◌then◌else◌}
use Rattle.std.specs.Option.{option_and_then}
use Rattle.tb_basic_syntax.specs.Parts.{jump_of}
use Rattle.tb_basic_syntax.specs.Source.{Statement, Program}
use Rattle.tb_basic_meaning.specs.Control.{has_line}
use Rattle.tb_basic_meaning.specs.Values.{constant}
use Rattle.tb_basic_renumber.specs.declared.jumps.JumpFault.{JumpFault}
use Rattle.tb_basic_renumber.specs.declared.jumps.JumpFault.TheVariants.{Computed, NoLine}

-- what is wrong with a target: it isn't constant, or no line has its number
abbrev pub target_fault : List ℕ → Option ℕ → Option JumpFault
target_fault ns None = Some Computed
target_fault ns (Some target) = if has_line ns target then None else Some (NoLine target)

-- what is wrong with the jump of a statement
abbrev pub statement_fault : List ℕ → Statement → Option JumpFault
statement_fault ns c = option_and_then (λ jump. target_fault ns (constant jump.0)) (jump_of c)

-- a line and its fault, if it has one, else what is found in the lines behind it
abbrev pub fault_or : ℕ → Option JumpFault → Option (ℕ × JumpFault) → Option (ℕ × JumpFault)
fault_or n (Some fault) rest = Some (n, fault)
fault_or n None rest = rest

-- the first of these lines with such a jump, and what is wrong with it
abbrev pub first_fault : List ℕ → Program → Option (ℕ × JumpFault)
first_fault ns [] = None
first_fault ns (line ∷ lines) = fault_or line.number (statement_fault ns line.content) (first_fault ns lines)
