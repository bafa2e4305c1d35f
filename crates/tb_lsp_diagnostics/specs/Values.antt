-- Diagnostics as JSON values.
use Rattle.std.specs.Prelude.{ℕ, List, codes}
use Rattle.serde_json.specs.Data.{Data, array, item, member, no_items, no_members, number, object, string, unsigned}
use Rattle.tb_basic_places.specs.declared.spans.Span.{Span}
use Rattle.tb_editor_values.specs.Ranges.{location_of, range_of}
use Rattle.tb_lsp_diagnostics.specs.declared.values.Severity.{Severity}
use Rattle.tb_lsp_diagnostics.specs.declared.values.Severity.TheVariants.{Error, Warning, Information}
use Rattle.tb_lsp_diagnostics.specs.declared.values.TheConstants.{BY_THIS_LINE}

-- the number of a severity
abbrev pub severity_number : Severity → ℕ
severity_number Error = 1
severity_number Warning = 2
severity_number Information = 3

-- a diagnostic
abbrev pub plain : List ℕ → List ℕ → Span → ℕ → Data
plain code message span severity =
    object (member (codes "code") (string code) (member (codes "message") (string message) (member (codes "range") (range_of span)
    (member (codes "severity") (number (unsigned severity)) (member (codes "source") (string (codes "tbc")) no_members)))))

-- where the line is that does away with another
abbrev pub related : List ℕ → Span → Data
related uri by =
    array (item (object (member (codes "location") (location_of uri by) (member (codes "message") (string BY_THIS_LINE.now) no_members))) no_items)

-- the tag of what is unnecessary
abbrev pub tags : Data
tags = array (item (number (unsigned 1)) no_items)

-- a diagnostic of a line that a later one does away with
abbrev pub superseded : List ℕ → List ℕ → List ℕ → Span → ℕ → Span → Data
superseded uri code message span severity by =
    object (member (codes "code") (string code) (member (codes "message") (string message) (member (codes "range") (range_of span)
    (member (codes "relatedInformation") (related uri by) (member (codes "severity") (number (unsigned severity))
    (member (codes "source") (string (codes "tbc")) (member (codes "tags") tags no_members)))))))
