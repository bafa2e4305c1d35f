-- The page of a profile, in HTML.
use Rattle.std.specs.Prelude.{ℕ, List, [], ◌∷◌, ◌++◌, codes, flat_map, map, max}
use Rattle.std.specs.Fmt.{decimal}
use Rattle.tb_engine_profile_table.specs.declared.page.TheConstants.{HEAD, STYLE, ROWS, FOOT}
use Rattle.tb_engine_profile_table.specs.declared.rows.Row.{Row}
use Rattle.tb_engine_profile_table.specs.declared.rows.Whole.{Whole}
use Rattle.tb_engine_profile_table.specs.declared.table.Figures.{Figures}
use Rattle.tb_engine_profile_table.specs.declared.cells.Scale.{Scale}
use Rattle.tb_engine_profile_table.specs.About.{Facts, keys_text, rom_text, yes_or_no}
use Rattle.tb_engine_profile_table.specs.Figures.{seconds}
use Rattle.tb_engine_profile_table.specs.Cells.{escaped, row_text, source, sum_row, text_row}
use Rattle.tb_engine_profile_table.specs.Table.{sum_of}

-- the largest of some numbers, 0 if there are none
abbrev pub largest : List ℕ → ℕ
largest [] = 0
largest (n ∷ ns) = max n (largest ns)

-- the most cycles of a row
abbrev pub largest_of : Whole → List (Row × List ℕ) → ℕ
largest_of whole lines = largest (whole.start.cycles ∷ map (λ l. l.0.cycles) lines)

-- what the rows are compared with: the whole run, and the row that took most
abbrev pub scale_of : Whole → List (Row × List ℕ) → Scale
scale_of whole lines = record { all = whole.cycles; largest = largest_of whole lines }

-- the row of a line up to its statement
unfoldable pub numbered_row : Row → Scale → List ℕ
numbered_row r scale = row_text (decimal r.line) r scale

-- the row of a line
unfoldable pub line_row : Scale → Row × List ℕ → List ℕ
line_row scale l = numbered_row l.0 scale ++ source l.1 ++ codes "</tr>\n"

-- the row of what came before the first line
unfoldable pub start_row : Row → Scale → List ℕ
start_row start scale = row_text (codes "start") start scale ++ source [] ++ codes "</tr>\n"

-- the rows, with the texts that come before and after them
unfoldable pub rows_of : Scale → Whole → List (Row × List ℕ) → List ℕ
rows_of scale whole lines = ROWS.now ++ start_row whole.start scale ++ flat_map (line_row scale) lines ++ FOOT.now

-- the row of the seconds of a PAL machine
unfoldable pub seconds_row : ℕ → List ℕ
seconds_row cycles = codes "<tr><th scope=\"row\">seconds of a PAL machine</th><td>" ++ seconds cycles ++ codes "</td></tr>\n"

-- the rows of the figures of the whole run
unfoldable pub figures_rows : Figures → List ℕ
figures_rows all =
    sum_row (codes "lines begun") all.times ++ sum_row (codes "instructions") all.instructions ++ sum_row (codes "cycles") all.cycles
    ++ seconds_row all.cycles

-- the rows of what the program was compiled with, and of the most events
unfoldable pub options_rows : Facts → List ℕ
options_rows f = sum_row (codes "seed") f.seed ++ text_row (codes "fit") (yes_or_no f.fits) ++ sum_row (codes "limit of events") f.limit

-- the rows of what the run was given
unfoldable pub given_rows : Facts → List ℕ
given_rows f =
    text_row (codes "keys") (keys_text f.keys) ++ text_row (codes "answers") (keys_text f.answers) ++ text_row (codes "ROM") (rom_text f.rude)

-- the rows of the whole run
unfoldable pub whole_rows : Facts → Figures → List ℕ
whole_rows f all = text_row (codes "end") f.end ++ figures_rows all ++ options_rows f ++ given_rows f

-- the table of the whole run
unfoldable pub sums : Facts → Figures → List ℕ
sums f all = codes "<table class=\"sums\">\n<caption>The whole run.</caption>\n" ++ whole_rows f all ++ codes "</table>\n"

-- the page up to the table of the whole run
unfoldable pub heading : List ℕ → List ℕ
heading name = HEAD.now ++ flat_map escaped name ++ STYLE.now ++ flat_map escaped name ++ codes "</h1>\n"

-- the page
unfoldable pub page_of : Facts → Whole → List (Row × List ℕ) → List ℕ
page_of f whole lines = heading f.name ++ sums f (sum_of whole lines) ++ rows_of (scale_of whole lines) whole lines
