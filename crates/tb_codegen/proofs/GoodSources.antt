-- What is said of a source in the notation without signs, said of the program of a good source.
use Rattle.std.proofs.Common.{ℕ, List, Result, Ok, Err}
use Rattle.std.specs.Prelude.{IfOk}
use Rattle.tb_basic_text.specs.declared.notation.Notation.TheVariants.{Plain}
use Rattle.tb_parser.proofs.Programs.{program_of}
use Rattle.tb_compiled_errors.specs.declared.refusals.CompileError.{CompileError}
use Rattle.tb_compiled.specs.declared.compiled.Compiled.{Compiled}
use Rattle.tb_compiled.specs.Theorem.{KeepsSourceIn, KeepsItsSource, MarksLinesIn, MarksItsLines}

-- what is compiled without signs keeps the program of its source
pub keeps_its_source : (seed : ℕ) (source : List ℕ) (r : Result Compiled CompileError) → IfOk r (KeepsSourceIn Plain seed source) → IfOk r (KeepsItsSource seed source)
keeps_its_source seed source (Ok c) h = (h.0, program_of source h.0 h.1, h.2)
keeps_its_source seed source (Err e) h = tt

-- and marks its lines
pub marks_its_lines : (seed : ℕ) (source : List ℕ) (r : Result Compiled CompileError) → IfOk r (MarksLinesIn Plain seed source) → IfOk r (MarksItsLines seed source)
marks_its_lines seed source (Ok c) h = (h.0, program_of source h.0 h.1, h.2)
marks_its_lines seed source (Err e) h = tt
