-- What is told of a source.
use Rattle.std.specs.Prelude.{◌≡◌, ℕ, ◌-◌, List, map}
use Rattle.std.specs.Option.{option_and_then}
use Rattle.std.specs.List.{slice_get}
use Rattle.tb_basic_syntax.specs.PlainData.{lines_of}
use Rattle.tb_basic_syntax.specs.Source.{Program}
use Rattle.tb_parser.specs.declared.errors.SourceError.{SourceError}
use Rattle.tb_basic_text.specs.Lines.{lines_of_file}
use Rattle.tb_engine_findings.specs.Entries.{DeepLinesAre, Entry, EntriesAre, numbered_of}
use Rattle.tb_engine_findings.specs.Notes.{note_on}
use Rattle.tb_engine_findings.specs.Verdicts.{Judges}
use Rattle.tb_engine_findings.specs.Warnings.{warnings_on}
use Rattle.tb_engine_findings.specs.declared.judging.Verdict.{Verdict}
use Rattle.tb_engine_findings.specs.declared.judging.Verdict.TheVariants as verdict
use Rattle.tb_basic_text.specs.declared.notation.Notation.{Notation}
use Rattle.tb_engine_findings.specs.declared.settings.CheckSettings.{CheckSettings}
use Rattle.tb_engine_findings.specs.declared.examination.BadLine.{BadLine}
use Rattle.tb_engine_findings.specs.declared.examination.Findings.{Findings}
use Rattle.tb_engine_findings.specs.declared.examination.Findings.TheVariants.{BadLines, Empty, Refused, Accepted}
use Rattle.tb_engine_findings.specs.declared.warnings.LineWarning.{LineWarning}
use Rattle.tb_compiled.specs.Promise.{Own}

-- a fault of one of these lines in a notation, with its note
abbrev pub noted : Notation → List (List ℕ) → SourceError → BadLine
noted notation lines e = record { error = e; note = option_and_then (λ line. note_on notation line e) (slice_get lines (e.line - 1)) }

-- findings with the faults of a verdict on these lines: the bad lines with their notes; by the numbers of lines that are
-- too deep, these lines of the file; the warnings on a program
abbrev pub Tells : (notation : Notation) (lines : List (List ℕ)) (AreDeep : List ℕ → List ℕ → Type 0) (AreWarnings : Program → List LineWarning → Type 0)
    → Verdict → Findings → Type 0
Tells notation lines AreDeep AreWarnings (verdict.BadLines errors) (BadLines bad) = bad.items ≡ map (noted notation lines) errors.items
Tells notation lines AreDeep AreWarnings verdict.Empty Empty = Unit {0}
Tells notation lines AreDeep AreWarnings (verdict.Refused f) (Refused deep too_large) = (too_large ≡ f.too_large) × AreDeep f.deep.items deep.items
Tells notation lines AreDeep AreWarnings (verdict.Accepted p) (Accepted warnings) = AreWarnings (lines_of p) warnings.items
Tells _ _ _ _ _ _ = ⊥

-- the warnings on a source and its program
abbrev pub WarningsAre : Notation → List ℕ → Program → List LineWarning → Type 0
WarningsAre notation source p found = (es : List Entry) × EntriesAre notation 1 (lines_of_file source) es × (found ≡ warnings_on p (map numbered_of es))

-- findings of a source
abbrev pub AreFindings : Own → CheckSettings → List ℕ → Findings → Type 0
AreFindings own settings source f =
    (v : Verdict) × Judges own settings source v
    × Tells settings.notation (lines_of_file source) (λ numbers deep. DeepLinesAre settings.notation source deep) (WarningsAre settings.notation source) v f
