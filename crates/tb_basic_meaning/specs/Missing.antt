-- Constant targets that are missing.
use Rattle.std.specs.Prelude.{ℕ, List, [], ◌∷◌, if◌then◌else◌, Option, Some, None}
use Rattle.std.specs.Option.{option_and_then}
use Rattle.tb_basic_syntax.specs.Parts.{jump_of}
use Rattle.tb_basic_syntax.specs.Source.{Statement, Program, numbers}
use Rattle.tb_basic_meaning.specs.Control.{has_line}
use Rattle.tb_basic_meaning.specs.Values.{constant}

-- a target, if there is no line of its number
abbrev pub without_line : List ℕ → Option ℕ → Option ℕ
without_line ns (Some target) = if has_line ns target then None else Some target
without_line ns None = None

-- the constant target of a statement's jump, if it is missing
abbrev pub missing_target : List ℕ → Statement → Option ℕ
missing_target ns c = option_and_then (λ jump. without_line ns (constant jump.0)) (jump_of c)

-- a line and a target before others, if there is a target
abbrev pub with_target : ℕ → Option ℕ → List (ℕ × ℕ) → List (ℕ × ℕ)
with_target n (Some target) rest = (n, target) ∷ rest
with_target n None rest = rest

-- lines with their missing targets, in the order of lines
abbrev pub missing_in : List ℕ → Program → List (ℕ × ℕ)
missing_in ns [] = []
missing_in ns (line ∷ lines) = with_target line.number (missing_target ns line.content) (missing_in ns lines)

-- a program's lines with their missing targets
abbrev pub missing_targets : Program → List (ℕ × ℕ)
missing_targets program = missing_in (numbers program) program
