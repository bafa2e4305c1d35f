-- The cells and rows of a page, in HTML.
use Rattle.std.specs.Prelude.{ℕ, ◌+◌, ◌*◌, ◌/◌, ◌%◌, List, [], ◌∷◌, ◌++◌, codes, flat_map, ◌==◌, if◌then◌else◌}
use Rattle.std.specs.Fmt.{decimal}
use Rattle.tb_engine_profile_table.specs.declared.rows.Row.{Row}
use Rattle.tb_engine_profile_table.specs.declared.table.Figures.{Figures}
use Rattle.tb_engine_profile_table.specs.declared.cells.Scale.{Scale}
use Rattle.tb_basic_source.specs.ShownBytes.{shown}
use Rattle.tb_engine_profile_table.specs.Figures.{each, marked, percent, share}
use Rattle.tb_engine_profile_table.specs.Table.{figures_of}

-- a byte of a text, escaped if HTML would read it otherwise
unfoldable pub escaped : ℕ → List ℕ
escaped b =
    if b == 38 then codes "&amp;"
    else if b == 60 then codes "&lt;"
    else if b == 62 then codes "&gt;"
    else if b == 34 then codes "&quot;"
    else if b == 39 then codes "&#39;"
    else shown b ∷ []

-- the cell of a statement
unfoldable pub source : List ℕ → List ℕ
source statement = codes "<td class=\"source\">" ++ flat_map escaped statement ++ codes "</td>"

-- the cell of a number, its thousands marked
unfoldable pub cell : ℕ → List ℕ
cell n = codes "<td>" ++ marked (decimal n) ++ codes "</td>"

-- the cell of the cycles of each time, empty if there are none
unfoldable pub each_cell : ℕ → ℕ → List ℕ
each_cell cycles times = if times == 0 then codes "<td></td>" else cell (each cycles times)

-- the cells of times, instructions, cycles, and cycles a time
unfoldable pub cells : Figures → List ℕ
cells f = cell f.times ++ cell f.instructions ++ cell f.cycles ++ each_cell f.cycles f.times

-- the cell of the share of all cycles
unfoldable pub share_cell : ℕ → List ℕ
share_cell thousandths = codes "<td>" ++ percent thousandths ++ codes "</td>"

-- a bar that is as many hundredths of an em long as the row has thousandths of the largest one's cycles
unfoldable pub bar : ℕ → List ℕ
bar part = codes "<td class=\"bar\"><span style=\"width: " ++ decimal (part / 100) ++ codes "." ++ decimal (part % 100 / 10) ++ codes "em\"></span></td>"

-- the bar of a row, or words if its line never ran
unfoldable pub bar_cell : ℕ → ℕ → List ℕ
bar_cell times part = if times == 0 then codes "<td class=\"bar\">never ran</td>" else bar part

-- the class of a row: its shade, from 0 (no cycles) to 9 (the most), or that its line never ran
unfoldable pub shade : ℕ → ℕ → List ℕ
shade times part = if times == 0 then codes "never" else codes "h" ++ decimal ((part * 9 + 999) / 1000)

-- the beginning of a row: its class and its name
unfoldable pub opening : ℕ → ℕ → List ℕ → List ℕ
opening times part name = codes "<tr class=\"" ++ shade times part ++ codes "\"><th scope=\"row\">" ++ name ++ codes "</th>"

-- a row up to its statement
unfoldable pub row_text : List ℕ → Row → Scale → List ℕ
row_text name r scale =
    opening r.times (share r.cycles scale.largest) name ++ cells (figures_of r) ++ share_cell (share r.cycles scale.all)
    ++ bar_cell r.times (share r.cycles scale.largest)

-- a row of a number
unfoldable pub sum_row : List ℕ → ℕ → List ℕ
sum_row name n = codes "<tr><th scope=\"row\">" ++ name ++ codes "</th>" ++ cell n ++ codes "</tr>\n"

-- a row of a text
unfoldable pub text_row : List ℕ → List ℕ → List ℕ
text_row name said = codes "<tr><th scope=\"row\">" ++ name ++ codes "</th><td class=\"text\">" ++ flat_map escaped said ++ codes "</td></tr>\n"
