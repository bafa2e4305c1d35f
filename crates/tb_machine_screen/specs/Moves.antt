-- Moves of the cursor, and what DEL and INST do.
use Rattle.std.specs.Prelude.{◌+◌, ◌-◌, ◌%◌, Bool, false, ◌&&◌, not, eqb, nat_lt, replicate, if◌then◌else◌}
use Rattle.std.specs.List.{slice_index_or}
use Rattle.tb_machine_screen.specs.Cells.{blank}
use Rattle.tb_machine_screen.specs.Contents.{Content}
use Rattle.tb_machine_screen.specs.Shifting.{pulled, pushed}
use Rattle.tb_machine_screen.specs.Lines.{place, line_end, has_two_rows, in_row, on_row_below, at_left, row_opened}
use Rattle.tb_machine_screen.specs.Numbers.{SPACE}
use Rattle.tb_machine_screen.specs.Numbers.{COLUMNS, PLACES, ROWS}

-- the cursor at the top left
unfoldable pub at_home : Content → Content
at_home s = record s { row = 0; column = 0 }

-- all blank, the cursor at the top left
unfoldable pub cleared : Content → Content
cleared s = at_home (record s { cells = replicate PLACES (blank s.colour); joined = replicate ROWS false })

-- one row up; from the top nowhere
unfoldable pub on_row_above : Content → Content
on_row_above s = if nat_lt 0 s.row then in_row (s.row - 1) s else s

-- one place to the left: from the left edge to the right edge of the row above, from the top left nowhere
unfoldable pub on_left : Content → Content
on_left s =
    if nat_lt 0 s.column then record s { column = s.column - 1 }
    else if nat_lt 0 s.row then record s { row = s.row - 1; column = COLUMNS - 1 }
    else s

-- one place to the right: from the right edge to the left edge of the row below
unfoldable pub on_right : Content → Content
on_right s = if nat_lt (s.column + 1) COLUMNS then record s { column = s.column + 1 } else on_row_below (at_left s)

-- what stands left of the cursor goes, the rest of the line comes after, and its end is blank; from the top left nothing
unfoldable pub deleted : Content → Content
deleted s =
    if eqb s.row 0 && eqb s.column 0 then s
    else let t = on_left s in record t { cells = pulled (place t) (line_end t) (blank t.colour) t.cells }

-- a space comes at the cursor, the rest of the line moves on, and one more byte is shown in any case
unfoldable pub space_inserted : Content → Content
space_inserted s =
    record s { cells = pushed (place s) (line_end s) (blank s.colour) s.cells; inserts = (s.inserts + 1) % 256 }

-- whether the line ends in a space, after the cursor
unfoldable pub has_room : Content → Bool
has_room s =
    not (eqb (place s) (line_end s)) && eqb (slice_index_or s.cells (line_end s) (blank s.colour)).code SPACE

-- a space inserted: within the line, or in a line of one row that gets a second one; a full line of two rows stays
unfoldable pub inserted : Content → Content
inserted s =
    if has_room s then space_inserted s
    else if has_two_rows s then s
    else space_inserted (row_opened s)
