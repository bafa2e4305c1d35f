-- The fixes of the findings on lines.
use Rattle.std.specs.Prelude.{ℕ, ◌≡◌, ◌-◌, nat_le, Bool, true, false, ◌&&◌, ◌||◌, ◌==◌, List, [], ◌∷◌, ◌++◌, codes, flat_map, length, slice_get, Option, Some, None, if◌then◌else◌}
use Rattle.serde_json.specs.Data.{Data, array, boolean, item, member, no_items, no_members, object, string}
use Rattle.serde_json.specs.View.{items_of}
use Rattle.tb_basic_text.specs.Lines.{lines_of_file}
use Rattle.tb_basic_text.specs.declared.notation.Notation.{Notation}
use Rattle.tb_engine_findings.specs.Fitted.{AreFitted}
use Rattle.tb_engine_findings.specs.declared.examination.BadLine.{BadLine}
use Rattle.tb_engine_findings.specs.declared.examination.Findings.{Findings}
use Rattle.tb_engine_findings.specs.declared.examination.Findings.TheVariants.{BadLines, Empty, Refused, Accepted}
use Rattle.tb_engine_findings.specs.declared.warnings.LineWarning.{LineWarning}
use Rattle.tb_basic_names.specs.declared.lines.Line.{Line as SourceLine}
use Rattle.tb_lsp_diagnostics.specs.Diagnostics.{on_bad_line, on_warning}
use Rattle.tb_editor_values.specs.Edits.{changes}
use Rattle.tb_lsp_fixes.specs.Fixes.{fix_of_bad_line, fix_of_warning}
use Rattle.tb_lsp_fixes.specs.Mends.{Mends}
use Rattle.tb_lsp_fixes.specs.declared.offers.LineRange.{LineRange}
use Rattle.tb_compiled.specs.Promise.{Own}

-- whether a line, which is counted from 1, is one of these
abbrev pub has : LineRange → ℕ → Bool
has range line = nat_le range.first (line - 1) && nat_le (line - 1) range.last

-- a fix with its finding
abbrev pub action_value : List ℕ → Data → List ℕ → List Data → Data
action_value uri diagnostic title edits =
    object (member (codes "diagnostics") (array (item diagnostic no_items)) (member (codes "edit") (changes uri edits)
    (member (codes "isPreferred") (boolean true) (member (codes "kind") (string (codes "quickfix")) (member (codes "title") (string title) no_members)))))

-- what is offered, if anything mends a finding
abbrev pub offered : List ℕ → Data → Option Mends → List Data
offered uri diagnostic None = []
offered uri diagnostic (Some fix) = action_value uri diagnostic fix.title fix.edits ∷ []

-- for a bad line, if it is one of these lines
abbrev pub of_bad_line : List ℕ → List (List ℕ) → LineRange → BadLine → List Data
of_bad_line uri lines range bad = if has range bad.error.line then offered uri (on_bad_line lines bad) (fix_of_bad_line lines bad) else []

-- for bad lines
abbrev pub of_bad_lines : List ℕ → List (List ℕ) → LineRange → List BadLine → List Data
of_bad_lines uri lines range bad = flat_map (of_bad_line uri lines range) bad

-- for a warning on one of these lines
abbrev pub of_warning : List ℕ → List (List ℕ) → List SourceLine → Bool → LineRange → LineWarning → List Data
of_warning uri lines all is_ended range w = if has range w.line then offered uri (on_warning uri lines w) (fix_of_warning lines all is_ended w) else []

-- for warnings
abbrev pub of_warnings : List ℕ → List (List ℕ) → List SourceLine → Bool → LineRange → List LineWarning → List Data
of_warnings uri lines all is_ended range found = flat_map (of_warning uri lines all is_ended range) found

-- for findings
abbrev pub of_findings : List ℕ → List (List ℕ) → List SourceLine → Bool → LineRange → Findings → List Data
of_findings uri lines all is_ended range (BadLines bad) = of_bad_lines uri lines range bad.items
of_findings uri lines all is_ended range Empty = []
of_findings uri lines all is_ended range (Refused deep too_large) = []
of_findings uri lines all is_ended range (Accepted warnings) = of_warnings uri lines all is_ended range warnings.items

-- whether a byte ends a line
abbrev pub is_end : Option ℕ → Bool
is_end None = false
is_end (Some b) = (b == 10) || (b == 13)

-- whether a source ends its last line
abbrev pub ends_its_line : List ℕ → Bool
ends_its_line source = is_end (slice_get source (length source - 1))

-- the fixes of the findings of a text that may take the memory, which are what `check` says of it in a notation, by the
-- lines that it is read as
abbrev pub AreActions : Own → Notation → List ℕ → List ℕ → List SourceLine → LineRange → Data → Type 0
AreActions own notation uri text all range v =
    (cost : Option ℕ) × (f : Findings) × AreFitted own notation text cost f
    × (v ≡ array (items_of (of_findings uri (lines_of_file text) all (ends_its_line text) range f)))
