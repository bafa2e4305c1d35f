-- The diagnostics of findings.
use Rattle.std.specs.Prelude.{ℕ, ◌-◌, List, [], ◌∷◌, ◌++◌, codes, map, string_bytes, unwrap_or, Option, Some, None, String}
use Rattle.std.specs.List.{slice_get}
use Rattle.std.specs.declared.alloc.Global.{Global}
use Rattle.serde_json.specs.Data.{Data}
use Rattle.tb_parser.specs.declared.errors.SourceErrorKind.TheVariants.{Empty as NothingLeft}
use Rattle.tb_engines.specs.Texts.{source_text, too_deep_text, too_large_text}
use Rattle.tb_engine_findings.specs.declared.examination.BadLine.{BadLine}
use Rattle.tb_engine_findings.specs.declared.examination.Findings.{Findings}
use Rattle.tb_engine_findings.specs.declared.examination.Findings.TheVariants.{BadLines, Empty, Refused, Accepted}
use Rattle.tb_engine_findings.specs.declared.notes.Note.{Note}
use Rattle.tb_engine_findings.specs.declared.warnings.LineWarning.{LineWarning}
use Rattle.tb_engine_findings.specs.declared.warnings.Warning.{Warning}
use Rattle.tb_engine_findings.specs.declared.warnings.Warning.TheVariants as warning
use Rattle.tb_engine_check.specs.Texts.{note_text, warning_text}
use Rattle.tb_engine_check.specs.declared.texts.TheConstants.{NO_OPTION}
use Rattle.tb_basic_options.specs.declared.options.BadWord.{BadWord}
use Rattle.tb_basic_places.specs.declared.spans.Span.{Span}
use Rattle.tb_basic_places.specs.Spans.{line_span, place_span, whole_span}
use Rattle.tb_lsp_diagnostics.specs.declared.findings.Lines.{Lines}
use Rattle.tb_lsp_diagnostics.specs.Codes.{error_code, warning_code}
use Rattle.tb_lsp_diagnostics.specs.Values.{plain, superseded}
use Rattle.tb_lsp_diagnostics.specs.declared.findings.TheConstants.{TOO_LONG}

-- the bytes of a text
abbrev pub bytes_of : String Global → List ℕ
bytes_of text = string_bytes text

-- the lines of a text
abbrev pub texts_of : Lines → List (List ℕ)
texts_of text = map (λ t. t.now) text.lines.now

-- a line, counted from 1
abbrev pub line_at : List (List ℕ) → ℕ → List ℕ
line_at lines n = unwrap_or (slice_get lines (n - 1)) []

-- a line without the spaces at its ends
abbrev pub span_at : List (List ℕ) → ℕ → Span
span_at lines n = line_span n (line_at lines n)

-- what a note adds
abbrev pub noted : Option Note → List ℕ
noted None = []
noted (Some note) = codes ": " ++ note_text note

-- what is said of a bad line
abbrev pub message_of : BadLine → List ℕ
message_of bad = source_text bad.error.kind ++ noted bad.note

-- a bad line: what stands at the place of its fault
abbrev pub on_bad_line : List (List ℕ) → BadLine → Data
on_bad_line lines bad =
    plain (error_code bad.error.kind) (message_of bad) (place_span bad.error.line (line_at lines bad.error.line) bad.error.column) 1

-- what is said of a line that is too deep
abbrev pub too_deep : List ℕ
too_deep = too_deep_text

-- a line that is too deep
abbrev pub on_deep_line : List (List ℕ) → ℕ → Data
on_deep_line lines line = plain (codes "expression-too-deep") too_deep (span_at lines line) 1

-- a fault of the whole
abbrev pub on_whole : List ℕ → List ℕ → Data
on_whole code message = plain code message whole_span 1

-- a program that is too large
abbrev pub on_size : ℕ → Data
on_size size = on_whole (codes "program-too-large") (too_large_text size)

-- the diagnostic of a program that is too large, where that is told
abbrev pub on_sizes : Option ℕ → List Data
on_sizes None = []
on_sizes (Some size) = on_size size ∷ []

-- what is wrong with a program
abbrev pub on_program : List (List ℕ) → List ℕ → Option ℕ → List Data
on_program lines deep too_large = map (on_deep_line lines) deep ++ on_sizes too_large

-- the line of the file that does away with another
abbrev pub superseding : Warning → Option ℕ
superseding (warning.Replaced number by) = Some by
superseding (warning.TakenOut number by) = Some by
superseding _ = None

-- a warning, by the line of the file that does away with its own
abbrev pub warned : List ℕ → List (List ℕ) → LineWarning → Option ℕ → Data
warned uri lines w None = plain (warning_code w.warning) (warning_text w.warning) (span_at lines w.line) 2
warned uri lines w (Some by) = superseded uri (warning_code w.warning) (warning_text w.warning) (span_at lines w.line) 2 (span_at lines by)

-- a warning
abbrev pub on_warning : List ℕ → List (List ℕ) → LineWarning → Data
on_warning uri lines w = warned uri lines w (superseding w.warning)

-- what is said of a word that is no option
abbrev pub no_option : List ℕ
no_option = NO_OPTION.now

-- such a word: what stands at its place
abbrev pub on_bad_word : List (List ℕ) → BadWord → Data
on_bad_word lines bad = plain (codes "no-option") no_option (place_span bad.line (line_at lines bad.line) bad.column) 1

-- the diagnostic of a word that is no option, where there is one
abbrev pub on_bad_words : List (List ℕ) → Option BadWord → List Data
on_bad_words lines None = []
on_bad_words lines (Some bad) = on_bad_word lines bad ∷ []

-- a text that has too many bytes
abbrev pub too_long : Data
too_long = on_whole (codes "read-fault") TOO_LONG.now

-- the diagnostics of findings of a text with these lines
abbrev pub diagnostics_of : List ℕ → List (List ℕ) → Findings → List Data
diagnostics_of uri lines (BadLines bad) = map (on_bad_line lines) bad.items
diagnostics_of uri lines Empty = on_whole (error_code NothingLeft) (source_text NothingLeft) ∷ []
diagnostics_of uri lines (Refused deep too_large) = on_program lines deep.items too_large
diagnostics_of uri lines (Accepted warnings) = map (on_warning uri lines) warnings.items

-- that a program costs too much for a command without `--fit`
abbrev pub on_cost : ℕ → Data
on_cost cost = plain (codes "program-too-large") (too_large_text cost ++ codes " without --fit") whole_span 3

-- that a program costs too much, if it does; of one that the memory doesn't hold nothing more is said
abbrev pub on_costs : Option ℕ → Findings → List Data
on_costs None f = []
on_costs (Some cost) (Refused deep (Some bytes)) = []
on_costs (Some cost) f = on_cost cost ∷ []

-- the diagnostics of findings of a text that may take the memory, by what its program costs if that is too much
abbrev pub fitted_of : List ℕ → List (List ℕ) → Option ℕ → Findings → List Data
fitted_of uri lines cost f = diagnostics_of uri lines f ++ on_costs cost f
