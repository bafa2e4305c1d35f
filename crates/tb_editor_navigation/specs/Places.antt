-- Where what a place names is named too.
use Rattle.std.specs.Prelude.{ℕ, ◌+◌, Bool, true, List, [], slice_get, Option, Some, None}
use Rattle.std.specs.Option.{option_and_then}
use Rattle.serde_json.specs.Data.{Data}
use Rattle.tb_basic_places.specs.declared.spans.Span.{Span}
use Rattle.tb_basic_names.specs.Places.{number_span, occurrences}
use Rattle.tb_basic_names.specs.Sources.{edits_of, standing}
use Rattle.tb_basic_names.specs.Touched.{name_at}
use Rattle.tb_basic_names.specs.declared.lines.Line.{Line as SourceLine}
use Rattle.tb_basic_names.specs.declared.names.Name.{Name}
use Rattle.tb_basic_names.specs.declared.names.Name.TheVariants as name
use Rattle.tb_basic_names.specs.declared.places.Occurrence.{Occurrence}
use Rattle.tb_editor_navigation.specs.Values.{highlight_values, location_values, optional_location}

-- the number that begins the line which gives the program its line n
abbrev pub standing_span : ℕ → List SourceLine → Option Span
standing_span n lines = option_and_then (λ place. option_and_then (number_span (place + 1)) (slice_get lines place)) (standing n (edits_of lines))

-- the number of the line that is named, where that stands
abbrev pub defined_by : List SourceLine → Name → Option Span
defined_by lines (name.Line n) = standing_span n lines
defined_by lines (name.Variable n) = None

-- the number of the line that is named at a place, where that stands
abbrev pub defined : ℕ → ℕ → List SourceLine → Option Span
defined line character lines = option_and_then (defined_by lines) (name_at line character lines)

-- where that is
abbrev pub definition : List ℕ → ℕ → ℕ → List SourceLine → Data
definition uri line character lines = optional_location uri (defined line character lines)

-- where something is named, if something is
abbrev pub named_by : Bool → List SourceLine → Option Name → List Occurrence
named_by with_declaration lines None = []
named_by with_declaration lines (Some n) = occurrences n with_declaration lines

-- where what a place names is named
abbrev pub named : ℕ → ℕ → Bool → List SourceLine → List Occurrence
named line character with_declaration lines = named_by with_declaration lines (name_at line character lines)

-- as locations
abbrev pub references : List ℕ → ℕ → ℕ → Bool → List SourceLine → Data
references uri line character with_declaration lines = location_values uri (named line character with_declaration lines)

-- as highlights, with the declaration
abbrev pub highlights : ℕ → ℕ → List SourceLine → Data
highlights line character lines = highlight_values (named line character true lines)
