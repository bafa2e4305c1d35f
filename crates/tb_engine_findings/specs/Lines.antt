-- The lines of a file, and what they say.
use Rattle.std.specs.Prelude.{◌≡◌, ◌⊎◌, ℕ, List, [], ◌∷◌, ◌++◌, map, Option, Some, None, option_map, Ok, Err}
use Rattle.tb_basic_syntax.specs.Source.{Program, Statement}
use Rattle.tb_basic_syntax.specs.PlainData.{lines_of}
use Rattle.tb_parser.specs.declared.errors.LineFault.{LineFault}
use Rattle.tb_parser.specs.Answers.{refusal_of}
use Rattle.tb_parser.specs.Files.{edited, with_line, without_line}
use Rattle.tb_basic_text.specs.declared.notation.Notation.{Notation}
use Rattle.tb_basic_text.specs.Lines.{lines_of_file}
use Rattle.tb_parser.specs.Readings.{Edit, LineIn, Refusal}
use Rattle.tb_engine_findings.specs.BadLines.{BadLinesAre}
use Rattle.tb_engine_findings.specs.Entries.{Entry, EntriesAre, entry_by, numbered_of}
use Rattle.tb_engine_findings.specs.declared.lines.SourceLines.{SourceLines}

-- what a program is after a line with a number
abbrev pub with_entry : Option Statement → ℕ → Program → Program
with_entry (Some c) number p = with_line number c p
with_entry None number p = without_line number p

-- what lines with numbers make of a program
abbrev pub with_entries : List Entry → Program → Program
with_entries [] p = p
with_entries (e ∷ es) p = with_entries es (with_entry e.states e.number p)

-- the lines as they were written
abbrev pub texts_of : SourceLines → List (List ℕ)
texts_of lines = map (λ t. t.now) lines.texts.items

-- what is read of a file: its lines, the bad ones, those with a number, and the program that these make
pub record AreRead (notation : Notation) (source : List ℕ) (lines : SourceLines) : Type 0 where
  pub texts : texts_of lines ≡ lines_of_file source
  pub bad : BadLinesAre notation 1 (lines_of_file source) lines.bad.items
  pub entries : List Entry
  pub entered : EntriesAre notation 1 (lines_of_file source) entries
  pub numbered : lines.numbered.items ≡ map numbered_of entries
  pub program : lines_of lines.program ≡ with_entries entries []

-- ── steps ──
-- a list with one more element, if there is one
abbrev pub pushed : {A : Type 0} → List A → Option A → List A
pushed xs None = xs
pushed xs (Some x) = xs ++ x ∷ []

-- line n of a file does something to the program
pub record DoesEdit (n : ℕ) (edit : Edit) (old new : SourceLines) : Type 0 where
  pub bad : new.bad.items ≡ old.bad.items
  pub numbered : new.numbered.items ≡ pushed old.numbered.items (option_map numbered_of (entry_by n edit))
  pub program : lines_of new.program ≡ edited edit (lines_of old.program)

-- line n of a file has a fault
pub record HasFault (n : ℕ) (fault : LineFault) (old new : SourceLines) : Type 0 where
  pub bad : new.bad.items ≡ old.bad.items ++ record { kind = fault.kind; line = n; column = fault.column } ∷ []
  pub numbered : new.numbered.items ≡ old.numbered.items
  pub program : new.program ≡ old.program

-- line n of a file was read: it is good and does something to the program, or it has a fault
abbrev pub Says : Notation → ℕ → List ℕ → SourceLines → SourceLines → Type 0
Says notation n line old new =
    ((edit : Edit) × LineIn notation line (Ok edit) × DoesEdit n edit old new)
    ⊎ ((fault : LineFault) × (r : Refusal) × LineIn notation line (Err r) × (refusal_of fault.kind fault.column ≡ Some r) × HasFault n fault old new)
