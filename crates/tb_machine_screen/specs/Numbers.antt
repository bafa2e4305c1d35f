-- The numbers that are promised, and that the code has the same ones.
use Rattle.std.specs.Prelude.{ℕ, ◌≡◌}
use Rattle.tb_machine_screen.specs.declared.screen.TheConstants as code_screen
use Rattle.tb_machine_screen.specs.declared.cells.TheConstants as code_cells
use Rattle.tb_machine_screen.specs.declared.glyphs.TheConstants as code_glyphs

-- how many cells a row has
abbrev pub COLUMNS : ℕ
COLUMNS = 40

-- how many rows there are
abbrev pub ROWS : ℕ
ROWS = 25

-- how many cells there are
abbrev pub PLACES : ℕ
PLACES = 1000

-- the screen code of a space
abbrev pub SPACE : ℕ
SPACE = 32

-- the colour behind all characters at a terminal, of 256: blue
abbrev pub BACKGROUND : ℕ
BACKGROUND = 19

-- the constants of the code are these numbers
abbrev pub ConstantsAreNumbers : Type 0
ConstantsAreNumbers =
    (code_screen.COLUMNS ≡ COLUMNS) × (code_screen.ROWS ≡ ROWS) × (code_screen.PLACES ≡ PLACES)
    × (code_cells.SPACE ≡ SPACE) × (code_glyphs.BACKGROUND ≡ BACKGROUND)
