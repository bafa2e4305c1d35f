-- What the crate's answers say.
use Rattle.std.specs.Prelude.{◌≡◌, ℕ, Option, Some, None, Result, Ok, Err, IfSome}
use Rattle.tb_basic_syntax.specs.PlainData.{statement_of}
use Rattle.tb_parser.specs.declared.edits.LineEdit.{LineEdit}
use Rattle.tb_parser.specs.declared.edits.LineEdit.TheVariants as line_edit
use Rattle.tb_parser.specs.declared.errors.LineFault.{LineFault}
use Rattle.tb_parser.specs.declared.errors.SourceError.{SourceError}
use Rattle.tb_parser.specs.declared.errors.SourceErrorKind.{SourceErrorKind}
use Rattle.tb_parser.specs.declared.errors.SourceErrorKind.TheVariants.{Syntax, NoMemory}
use Rattle.tb_parser.specs.Readings.{Refusal, at_column, Edit, Nothing, Sets, Deletes}
use Rattle.tb_parser.specs.Files.{FileRefusal, refused_at}

-- the refusal that an error tells: None if memory ran out, and for Syntax without its column
abbrev pub refusal_of : SourceErrorKind → ℕ → Option Refusal
refusal_of NoMemory column = None
refusal_of Syntax column = Some (record { kind = Syntax; column = None })
refusal_of kind column = Some (at_column kind column)

-- the answer for a line is one of these, unless memory ran out
abbrev pub Says : {X A : Type 0} → (X → A) → Result X LineFault → (Result A Refusal → Type 0) → Type 0
Says view (Ok x) Is = Is (Ok (view x))
Says view (Err fault) Is = IfSome (refusal_of fault.kind fault.column) (λ r. Is (Err r))

-- the answer for a file is one of these, unless memory ran out
abbrev pub Answers : {X A : Type 0} → (X → A) → Result X SourceError → (Result A FileRefusal → Type 0) → Type 0
Answers view (Ok x) Is = Is (Ok (view x))
Answers view (Err e) Is = IfSome (refusal_of e.kind e.column) (λ r. Is (Err (refused_at e.line r)))

-- an outcome of a line, as that of a file whose first line it is
abbrev pub InLineOne : {A : Type 0} → (Result A Refusal → Type 0) → Result A FileRefusal → Type 0
InLineOne Is (Ok a) = Is (Ok a)
InLineOne Is (Err r) = (r.line ≡ 1) × Is (Err r.refusal)

-- what a line does, as plain data
abbrev pub edit_of : LineEdit → Edit
edit_of line_edit.Nothing = Nothing
edit_of (line_edit.Set number statement) = Sets number (statement_of statement)
edit_of (line_edit.Delete number) = Deletes number
