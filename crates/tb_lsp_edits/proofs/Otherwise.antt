-- Lines that read otherwise than they were to.
use Rattle.std.proofs.Common.{◌≡◌, ◌≢◌, ◌↔◌, ℕ, Bool, true, false, List, Option, Some, None, Ok, Err, IfSome, IsTrue, subst, refl}
use Rattle.tb_parser.proofs.Unique.{line_one, ok_err, ok_same}
use Rattle.tb_parser.specs.Answers.{Says, edit_of, refusal_of}
use Rattle.tb_parser.specs.declared.edits.LineEdit.{LineEdit}
use Rattle.tb_parser.specs.declared.errors.LineFault.{LineFault}
use Rattle.tb_parser.specs.declared.errors.SourceErrorKind.{SourceErrorKind}
use Rattle.tb_parser.specs.declared.errors.SourceErrorKind.TheVariants.{NoMemory, Syntax}
use Rattle.tb_basic_text.specs.declared.notation.Notation.{Notation}
use Rattle.tb_parser.specs.Readings.{Edit, LineIn, Refusal, at_column}
use Rattle.tb_basic_names.specs.Lines.{does}
use Rattle.tb_basic_names.specs.declared.lines.Line.{Line as SourceLine}
use Rattle.tb_lsp_edits.specs.Rename.{has_bad_line, refusal_of as reason_of}
use Rattle.tb_lsp_edits.specs.Renamed.{renamed_edit, renamed_letter}
use Rattle.tb_lsp_edits.specs.declared.letters.Letters.{Letters}

-- a line that is read reads as what it does, and as nothing else
pub reads_if : (notation : Notation) (text : List ℕ) (letters : Letters) (line : Option LineEdit) (old new : LineEdit) (is : Bool) → line ≡ Some old
    → LineIn notation text (Ok (edit_of new)) → (IsTrue is ↔ (edit_of new ≡ renamed_edit (renamed_letter letters) (edit_of old)))
    → IsTrue is ↔ LineIn notation text (Ok (renamed_edit (renamed_letter letters) (does line)))
reads_if notation text letters line old new is is_old reads same =
    let wanted = renamed_edit (renamed_letter letters) (edit_of old) in
    rw is_old (
      λ yes. subst (λ e. LineIn notation text (Ok e)) (same.0 yes) reads,
      λ also. same.1 (ok_same (edit_of new) wanted (line_one text (Ok (edit_of new)) (Ok wanted) reads also)),
    )

refused : (kind : SourceErrorKind) (column : ℕ) (Is : Refusal → Type 0) → kind ≢ NoMemory → IfSome (refusal_of kind column) Is → (r : Refusal) × Is r
refused NoMemory column Is ne h = absurd (ne refl)
refused Syntax column Is ne h = (record { kind = Syntax; column = None }, h)
refused kind column Is ne h = (at_column kind column, h)

-- one that is refused reads as nothing
pub refused_if : (notation : Notation) (text : List ℕ) (fault : LineFault) (wanted : Edit) → Says edit_of (Err fault) (LineIn notation text)
    → fault.kind ≢ NoMemory → IsTrue false ↔ LineIn notation text (Ok wanted)
refused_if notation text fault wanted says ne =
    let bad = refused fault.kind fault.column (λ r. LineIn notation text (Err r)) ne says in
    (λ no. absurd (cc), λ also. absurd (ok_err wanted bad.0 (line_one text (Ok wanted) (Err bad.0) also bad.1)))

-- where nothing is refused, no line is bad
pub none_bad : (letters : Letters) (lines : List SourceLine) → reason_of letters lines ≡ None → has_bad_line lines ≡ false
none_bad letters lines none = go (has_bad_line lines) refl
  where
    go : (is : Bool) → has_bad_line lines ≡ is → has_bad_line lines ≡ false
    go false e = e
    go true e = let some = rw e at none in absurd (cc)
