-- The table of a profile as a text.
use Rattle.std.specs.Prelude.{ℕ, List, ◌++◌, codes, map, flat_map, sum_by}
use Rattle.std.specs.Fmt.{decimal}
use Rattle.tb_engine_profile_table.specs.declared.rows.Row.{Row}
use Rattle.tb_engine_profile_table.specs.declared.rows.Whole.{Whole}
use Rattle.tb_engine_profile_table.specs.declared.table.Figures.{Figures}
use Rattle.tb_basic_source.specs.ShownBytes.{shown}
use Rattle.tb_engine_profile_table.specs.Figures.{percent, right, share}

-- the figures in the row of a line
abbrev pub figures_of : Row → Figures
figures_of r = record { times = r.times; instructions = r.instructions; cycles = r.cycles }

-- the row of the sum: the times of all lines, and the rest of the whole run; a line is its row and its statement
abbrev pub sum_of : Whole → List (Row × List ℕ) → Figures
sum_of whole lines = record { times = sum_by (λ l. l.0.times) lines; instructions = whole.instructions; cycles = whole.cycles }

-- times, instructions and cycles in 11, 13 and 14 columns
unfoldable pub counts : Figures → List ℕ
counts f = right 11 (decimal f.times) ++ right 13 (decimal f.instructions) ++ right 14 (decimal f.cycles)

-- a name in 5 columns, the figures of its row, and the share of all cycles in 8 columns
unfoldable pub figures_text : List ℕ → Figures → ℕ → List ℕ
figures_text name f all = right 5 name ++ counts f ++ right 8 (percent (share f.cycles all))

-- the row of a line up to its statement
unfoldable pub numbered : Row → ℕ → List ℕ
numbered r all = figures_text (decimal r.line) (figures_of r) all

-- the row of a line, with its statement after two spaces
unfoldable pub line_text : ℕ → Row × List ℕ → List ℕ
line_text all l = numbered l.0 all ++ codes "  " ++ map shown l.1 ++ codes "\n"

-- a row without a statement
unfoldable pub named : List ℕ → Figures → ℕ → List ℕ
named name f all = figures_text name f all ++ codes "\n"

-- the table: what came before the first line, each line, and the sum
unfoldable pub table_of : Whole → List (Row × List ℕ) → List ℕ
table_of whole lines =
    codes " line      times instructions        cycles   share  statement\n"
    ++ named (codes "start") (figures_of whole.start) whole.cycles
    ++ flat_map (line_text whole.cycles) lines
    ++ named (codes "sum") (sum_of whole lines) whole.cycles
