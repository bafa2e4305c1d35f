-- The lines of a text, and in which of them an item stands.
use Rattle.std.specs.Prelude.{ℕ, ◌+◌, ◌-◌, Option, Some, None, Result, Ok, Err, List, [], ◌∷◌, length, nat_lt, unwrap_or, if◌then◌else◌}
use Rattle.std.specs.List.{slice_get}
use Rattle.tb_asm.specs.Layout.{Entry}
use Rattle.tb_asm.specs.Text.{items_of_text}
use Rattle.tb_assembly_reasons.specs.declared.lines.ItemPlace.{ItemPlace}

-- a line, counted from 1; empty if there is none
abbrev pub line_at : List (List ℕ) → ℕ → List ℕ
line_at lines n = unwrap_or (slice_get lines (n - 1)) []

-- items, or none if a line is bad
abbrev pub items_or_none : Result (List Entry) ℕ → List Entry
items_or_none (Ok items) = items
items_or_none (Err line) = []

-- the items of a line
abbrev pub items_in : List ℕ → List Entry
items_in line = items_or_none (items_of_text line)

-- where item `left` of these lines stands, the first of which has the number n
abbrev pub place_of : ℕ → ℕ → List (List ℕ) → Option ItemPlace
place_of n left [] = None
place_of n left (line ∷ lines) =
    let count = length (items_in line) in
    if nat_lt left count then Some (record { line = n; index = left }) else place_of (n + 1) (left - count) lines
