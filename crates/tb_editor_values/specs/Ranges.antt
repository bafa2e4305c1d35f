-- Spans as JSON values.
use Rattle.std.specs.Prelude.{ℕ, List, codes}
use Rattle.serde_json.specs.Data.{Data, member, no_members, number, object, string, unsigned}
use Rattle.tb_basic_places.specs.declared.spans.Span.{Span}

-- a place
abbrev pub place_of : ℕ → ℕ → Data
place_of line character = object (member (codes "character") (number (unsigned character)) (member (codes "line") (number (unsigned line)) no_members))

-- the range of a span
abbrev pub range_of : Span → Data
range_of span = object (member (codes "end") (place_of span.line span.end) (member (codes "start") (place_of span.line span.start) no_members))

-- a span of a text
abbrev pub location_of : List ℕ → Span → Data
location_of uri span = object (member (codes "range") (range_of span) (member (codes "uri") (string uri) no_members))
