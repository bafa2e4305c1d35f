-- Lines of the screen: a row, or two of which the second goes on the line of the first.
use Rattle.std.specs.Prelude.{ℕ, ◌+◌, ◌-◌, ◌*◌, Bool, true, false, ◌&&◌, ◌||◌, eqb, nat_lt, if◌then◌else◌}
use Rattle.std.specs.List.{slice_index_or}
use Rattle.tb_machine_screen.specs.Cells.{blank}
use Rattle.tb_machine_screen.specs.Contents.{Content}
use Rattle.tb_machine_screen.specs.Shifting.{scrolled, opened}
use Rattle.tb_machine_screen.specs.Numbers.{COLUMNS, ROWS}

-- whether a row goes on the line above
unfoldable pub is_joined : ℕ → Content → Bool
is_joined row s = nat_lt row ROWS && slice_index_or s.joined row false

-- the place of the cursor
unfoldable pub place : Content → ℕ
place s = s.row * COLUMNS + s.column

-- the last row of the line that has the cursor in its first or only row, or in its second
unfoldable pub last_row : Content → ℕ
last_row s = if is_joined (s.row + 1) s then s.row + 1 else s.row

-- whether the cursor's line has two rows
unfoldable pub has_two_rows : Content → Bool
has_two_rows s = is_joined s.row s || is_joined (s.row + 1) s

-- the last place of that line
unfoldable pub line_end : Content → ℕ
line_end s = last_row s * COLUMNS + (COLUMNS - 1)

-- all rows move up by one, and a blank row comes at the bottom
unfoldable pub row_scrolled : Content → Content
row_scrolled s = record s { cells = scrolled COLUMNS (blank s.colour) s.cells; joined = scrolled 1 false s.joined }

-- how many rows the line at the top has
unfoldable pub top_rows : Content → ℕ
top_rows s = if is_joined 1 s then 2 else 1

-- the line at the top leaves the screen
unfoldable pub line_scrolled : Content → Content
line_scrolled s = if is_joined 1 s then row_scrolled (row_scrolled s) else row_scrolled s

-- with the cursor in another row
unfoldable pub in_row : ℕ → Content → Content
in_row row s = record s { row = row }

-- the cursor goes one row down, in its column; at the bottom the screen scrolls first
unfoldable pub on_row_below : Content → Content
on_row_below s =
    if nat_lt (s.row + 1) ROWS then in_row (s.row + 1) s else in_row (ROWS - top_rows s) (line_scrolled s)

-- the cursor goes to the first row of the next line, in its column
unfoldable pub on_next_line : Content → Content
on_next_line s = on_row_below (in_row (last_row s) s)

-- a blank row comes below the cursor and goes on its line; the row at the bottom is lost
unfoldable pub row_put_below : Content → Content
row_put_below s =
    record s {
      cells = opened ((s.row + 1) * COLUMNS) COLUMNS (blank s.colour) s.cells;
      joined = opened (s.row + 1) 1 true s.joined;
    }

-- a blank row comes below the cursor and goes on its line; the screen scrolls first if the cursor is at the bottom
unfoldable pub row_opened : Content → Content
row_opened s =
    if eqb s.row (ROWS - 1) then row_put_below (in_row (ROWS - 1 - top_rows s) (line_scrolled s)) else row_put_below s

-- at the left edge
unfoldable pub at_left : Content → Content
at_left s = record s { column = 0 }

-- One place on: to the right, or from the right edge to the row below. A line of one row gets that row first, a line of
-- two is left.
unfoldable pub advanced : Content → Content
advanced s =
    if nat_lt (s.column + 1) COLUMNS then record s { column = s.column + 1 }
    else on_row_below (at_left (if has_two_rows s then s else row_opened s))
