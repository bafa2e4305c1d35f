-- Where a request asks.
use Rattle.std.specs.Prelude.{ℕ, List, codes, Option, option_and_then, option_map}
use Rattle.serde_json.specs.Data.{Data}
use Rattle.serde_json.specs.Find.{as_number, as_u64, get}
use Rattle.tb_editor_values.specs.declared.places.Place.{Place}

-- a number from 0 that is a member of a value
abbrev pub number_in : Data → List ℕ → Option ℕ
number_in d name = option_and_then (λ v. option_and_then as_u64 (as_number v)) (get name d)

-- a place
abbrev pub place_of : Data → Option Place
place_of d = option_and_then (λ line. option_map (λ character. record { line = line; character = character }) (number_in d (codes "character"))) (number_in d (codes "line"))

-- the place that params name
abbrev pub place_in : Data → Option Place
place_in d = option_and_then place_of (get (codes "position") d)

-- the first and the last line of a range
abbrev pub lines_between : Data → Option (ℕ × ℕ)
lines_between d =
    option_and_then (λ s. option_and_then (λ start. option_and_then (λ e. option_map (λ end. (start.line, end.line)) (place_of e)) (get (codes "end") d)) (place_of s))
    (get (codes "start") d)

-- the first and the last line of the range that params name
abbrev pub lines_of_range : Data → Option (ℕ × ℕ)
lines_of_range d = option_and_then lines_between (get (codes "range") d)
