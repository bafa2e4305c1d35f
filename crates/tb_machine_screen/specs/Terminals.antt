-- What a terminal does with strokes.
use Rattle.std.specs.Prelude.{ℕ, ◌+◌, ◌&&◌, Option, Some, None, List, [], ◌∷◌, eqb, if◌then◌else◌}
use Rattle.tb_machine_screen.specs.declared.strokes.Pen.{Pen}
use Rattle.tb_machine_screen.specs.declared.strokes.Stroke.{Stroke}
use Rattle.tb_machine_screen.specs.declared.strokes.Stroke.TheVariants.{Plain, Clear, MoveTo, Paint, Put}

-- what stands at one place: a character, and the pen that wrote it, `None` in the terminal's own colours
pub record Look : Type 0 where
  pub character : ℕ
  pub pen : Option Pen

-- a terminal: how many columns it has, where its cursor is, its pen, and what stands in each row and column
pub record Terminal : Type 0 where
  pub width : ℕ
  pub row : ℕ
  pub column : ℕ
  pub pen : Option Pen
  pub cells : ℕ → ℕ → Look

-- a space
abbrev pub space : Option Pen → Look
space pen = record { character = 32; pen = pen }

-- after a character at the right edge, the next one goes to the row below (at the bottom all would move up)
unfoldable pub wrapped : Terminal → Terminal
wrapped t = if eqb t.column t.width then record t { row = t.row + 1; column = 0 } else t

-- a character at the cursor, which goes on
unfoldable pub put : ℕ → Terminal → Terminal
put character t =
    record t {
      column = t.column + 1;
      cells = λ row column.
          if eqb row t.row && eqb column t.column then record { character = character; pen = t.pen } else t.cells row column;
    }

-- what one stroke does
unfoldable pub does : Stroke → Terminal → Terminal
does Plain t = record t { pen = None }
does Clear t = record t { cells = λ row column. space t.pen }
does (MoveTo row column) t = record t { row = row; column = column }
does (Paint pen) t = record t { pen = Some pen }
does (Put character) t = put character (wrapped t)

-- the terminal after strokes, the first one first
unfoldable pub after : List Stroke → Terminal → Terminal
after [] t = t
after (stroke ∷ strokes) t = after strokes (does stroke t)
