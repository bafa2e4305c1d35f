-- What is found, as JSON values.
use Rattle.std.specs.Prelude.{ℕ, List, codes, map, Option, Some, None}
use Rattle.serde_json.specs.Data.{Data, array, member, no_members, null, number, object, unsigned}
use Rattle.serde_json.specs.View.{items_of}
use Rattle.tb_basic_places.specs.declared.spans.Span.{Span}
use Rattle.tb_editor_values.specs.Ranges.{location_of, range_of}
use Rattle.tb_basic_names.specs.declared.places.Occurrence.{Occurrence}
use Rattle.tb_basic_names.specs.declared.places.Role.{Role}
use Rattle.tb_basic_names.specs.declared.places.Role.TheVariants.{Line, Read, Set}

-- a location, or null
abbrev pub optional_location : List ℕ → Option Span → Data
optional_location uri None = null
optional_location uri (Some span) = location_of uri span

-- where something is named
abbrev pub location_values : List ℕ → List Occurrence → Data
location_values uri found = array (items_of (map (λ o. location_of uri o.span) found))

-- the kind of a highlight: a text for lines, a read and a write of variables
abbrev pub kind_of : Role → ℕ
kind_of Line = 1
kind_of Read = 2
kind_of Set = 3

-- a highlight
abbrev pub highlight_value : Occurrence → Data
highlight_value o = object (member (codes "kind") (number (unsigned (kind_of o.role))) (member (codes "range") (range_of o.span) no_members))

-- the highlights
abbrev pub highlight_values : List Occurrence → Data
highlight_values found = array (items_of (map highlight_value found))
