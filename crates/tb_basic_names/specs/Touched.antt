-- What a place of a source touches and names.
use Rattle.std.specs.Prelude.{ℕ, List, slice_get, Option}
use Rattle.std.specs.Option.{option_and_then}
use Rattle.tb_basic_places.specs.Columns.{place_at}
use Rattle.tb_basic_names.specs.Lines.{does}
use Rattle.tb_basic_names.specs.Names.{name_in, touched}
use Rattle.tb_basic_names.specs.declared.lines.Line.{Line}
use Rattle.tb_basic_names.specs.declared.names.Name.{Name}

-- which token of a line is touched before a column
abbrev pub touched_in : ℕ → Line → Option ℕ
touched_in character l = touched l.tokens.items (place_at character l.text.now)

-- which token of a line of a source, which is counted from 0
abbrev pub touched_at : ℕ → ℕ → List Line → Option ℕ
touched_at line character lines = option_and_then (touched_in character) (slice_get lines line)

-- what is named before a column of a line
abbrev pub name_before : ℕ → Line → Option Name
name_before character l = option_and_then (name_in (does l.edit) l.tokens.items) (touched_in character l)

-- what a place names
abbrev pub name_at : ℕ → ℕ → List Line → Option Name
name_at line character lines = option_and_then (name_before character) (slice_get lines line)
