-- What a line does, by what reading it answers.
use Rattle.std.proofs.Common.{◌≢◌, ℕ, List, Some, None, Ok, Err, IfSome, refl}
use Rattle.tb_parser.specs.Answers.{Says, edit_of, refusal_of}
use Rattle.tb_parser.specs.declared.edits.LineEdit.{LineEdit}
use Rattle.tb_parser.specs.declared.errors.LineFault.{LineFault}
use Rattle.tb_parser.specs.declared.errors.SourceErrorKind.{SourceErrorKind}
use Rattle.tb_parser.specs.declared.errors.SourceErrorKind.TheVariants.{NoMemory, Syntax}
use Rattle.tb_basic_text.specs.declared.notation.Notation.{Notation}
use Rattle.tb_parser.specs.Readings.{LineIn, Refusal, at_column}
use Rattle.tb_basic_names.specs.Lines.{Does}

refused : (kind : SourceErrorKind) (column : ℕ) (Is : Refusal → Type 0) → kind ≢ NoMemory → IfSome (refusal_of kind column) Is → (r : Refusal) × Is r
refused NoMemory column Is ne h = absurd (ne refl)
refused Syntax column Is ne h = (record { kind = Syntax; column = None }, h)
refused kind column Is ne h = (at_column kind column, h)

-- a line that is read does what it says
pub good_if : (notation : Notation) (line : List ℕ) (edit : LineEdit) → Says edit_of (Ok edit) (LineIn notation line) → Does notation line (Some edit)
good_if notation line edit h = h

-- one with a fault that is not want of memory is refused
pub bad_if : (notation : Notation) (line : List ℕ) (fault : LineFault) → Says edit_of (Err fault) (LineIn notation line) → fault.kind ≢ NoMemory
    → Does notation line None
bad_if notation line fault h ne = refused fault.kind fault.column (λ r. LineIn notation line (Err r)) ne h
