-- The strokes that show a screen, and what it means that a terminal shows it.
use Rattle.std.specs.Prelude.{ℕ, zero, suc, ◌+◌, ◌*◌, ◌<◌, ◌≤◌, ◌≡◌, ◌⊎◌, ◌&&◌, Bool, false, Some, None, List, [], ◌∷◌, ◌++◌, take, drop, codes, eqb, if◌then◌else◌}
use Rattle.std.specs.Bool.{beq}
use Rattle.std.specs.List.{slice_index_or}
use Rattle.tb_machine_screen.specs.Cells.{blank}
use Rattle.tb_machine_screen.specs.Contents.{Content}
use Rattle.tb_machine_screen.specs.declared.cells.Cell.{Cell}
use Rattle.tb_machine_screen.specs.declared.colours.Colour.TheVariants.{LightBlue}
use Rattle.tb_machine_screen.specs.declared.colours.CharacterSet.{CharacterSet}
use Rattle.tb_machine_screen.specs.Numbers.{COLUMNS, ROWS}
use Rattle.tb_machine_screen.specs.declared.strokes.Pen.{Pen}
use Rattle.tb_machine_screen.specs.declared.strokes.Stroke.{Stroke}
use Rattle.tb_machine_screen.specs.declared.strokes.Stroke.TheVariants.{Plain, Clear, MoveTo, Paint, Put}
use Rattle.tb_machine_screen.specs.Looks.{glyph_of, pen_of, pen_for}
use Rattle.tb_machine_screen.specs.Strokes.{spelled_all}
use Rattle.tb_machine_screen.specs.Terminals.{Look, Terminal, space}

-- ---- what it means that a terminal shows a screen

-- how a cell looks
abbrev pub look_of : CharacterSet → Cell → Look
look_of set cell = record { character = glyph_of cell.code set; pen = Some (pen_of cell) }

-- the cell of a screen in a row and a column
abbrev pub cell_at : Content → ℕ → ℕ → Cell
cell_at s row column = slice_index_or s.cells (row * COLUMNS + column) (blank s.colour)

-- Each cell stands in its row and column, and all else is blank. The cursor is where the screen has it, and what is typed
-- there has the screen's colour.
pub record Shows (s : Content) (t : Terminal) : Type 0 where
  pub cells : (row column : ℕ) → row < ROWS → column < COLUMNS → t.cells row column ≡ look_of s.set (cell_at s row column)
  pub besides : (row column : ℕ) → (ROWS ≤ row) ⊎ (COLUMNS ≤ column) → t.cells row column ≡ space None
  pub row : t.row ≡ s.row
  pub column : t.column ≡ s.column
  pub pen : t.pen ≡ Some (pen_for s.colour s.reverse)

-- ---- the strokes

-- whether two pens are the same
abbrev pub same_pen : Pen → Pen → Bool
same_pen p q = eqb p.fore q.fore && beq p.reverse q.reverse

-- a pen is taken up if another one is in use
unfoldable pub taken_up : Pen → Pen → List Stroke
taken_up used pen = if same_pen used pen then [] else Paint pen ∷ []

-- the strokes of a cell, where a pen is in use
abbrev pub one_cell : CharacterSet → Pen → Cell → List Stroke
one_cell set used cell = taken_up used (pen_of cell) ++ (Put (glyph_of cell.code set) ∷ [])

-- the strokes of cells in a row, where a pen is in use
unfoldable pub cell_strokes : CharacterSet → Pen → List Cell → List Stroke
cell_strokes set used [] = []
cell_strokes set used (cell ∷ cells) = one_cell set used cell ++ cell_strokes set (pen_of cell) cells

-- the pen that each row begins with
abbrev pub first_pen : Pen
first_pen = pen_for LightBlue false

-- the strokes of a row
abbrev pub one_row : ℕ → CharacterSet → List Cell → List Stroke
one_row row set cells = MoveTo row 0 ∷ Paint first_pen ∷ cell_strokes set first_pen cells

-- the cells of a row
abbrev pub cells_in : ℕ → List Cell → List Cell
cells_in row cells = take COLUMNS (drop (row * COLUMNS) cells)

-- the strokes of the first rows
unfoldable pub row_strokes : ℕ → CharacterSet → List Cell → List Stroke
row_strokes zero set cells = []
row_strokes (suc n) set cells = row_strokes n set cells ++ one_row n set (cells_in n cells)

-- the strokes that show a screen: all is blanked, then come its rows, then the cursor with its pen
unfoldable pub frame_strokes : Content → List Stroke
frame_strokes s =
    (Plain ∷ Clear ∷ []) ++ row_strokes ROWS s.set s.cells
    ++ (MoveTo s.row s.column ∷ Paint (pen_for s.colour s.reverse) ∷ [])

-- the text that shows a screen
abbrev pub frame_of : Content → List ℕ
frame_of s = spelled_all (frame_strokes s)

-- the text that leaves a terminal in its own colours, with the cursor at the start of the row below the screen
abbrev pub closing_of : List ℕ
closing_of = spelled_all (Plain ∷ MoveTo 24 0 ∷ []) ++ codes "\r\n"
