-- The map of a program: what each of its parts takes, and what it costs.
use Rattle.std.specs.Prelude.{ℕ, ◌+◌, ◌-◌, ◌/◌, ◌%◌, List, [], ◌∷◌, ◌++◌, codes, drop, length, replicate, flat_map}
use Rattle.std.specs.Fmt.{decimal}
use Rattle.hex.specs.Hex.{encode_upper}
use Rattle.tb_basic_syntax.specs.Source.{Program}
use Rattle.tb_basic_meaning.specs.Cost.{statement_cost, cost}
use Rattle.tb_runtime16.specs.Addresses.{PROLOGUE_AT}
use Rattle.tb_compiled.specs.Compiled.{most_cost}
use Rattle.tb_compiled.specs.Parts.{Part, first_part}
use Rattle.tb_compiled.specs.Texts.{end_before}

-- ── parts ──
-- the lines, by where they begin and where the line table does
abbrev pub line_parts : List (ℕ × ℕ) → ℕ → Program → List Part
line_parts starts table [] = []
line_parts starts table (line ∷ lines) = first_part starts table line.number (36 + statement_cost line.content) ++ line_parts (drop 1 starts) table lines

-- the block, up to the first line, and what every program costs
abbrev pub block_part : List (ℕ × ℕ) → ℕ → Part
block_part starts table = record { name = codes "block"; at = PROLOGUE_AT; bytes = end_before table starts - PROLOGUE_AT; price = 64 }

-- the line table, up to the end of an image of `size` bytes
abbrev pub table_part : ℕ → ℕ → Part
table_part table size = record { name = codes "line_table"; at = table; bytes = PROLOGUE_AT + size - table; price = 0 }

-- the parts of a program whose image has `size` bytes
abbrev pub parts : List (ℕ × ℕ) → ℕ → ℕ → Program → List Part
parts starts table size program = block_part starts table ∷ (line_parts starts table program ++ table_part table size ∷ [])

-- ── their text ──
-- a text filled up with spaces after it
abbrev pub left : ℕ → List ℕ → List ℕ
left width t = t ++ replicate (width - length t) 32

-- a number with spaces before it
abbrev pub right : ℕ → ℕ → List ℕ
right width n = replicate (width - length (decimal n)) 32 ++ decimal n

-- the row of a part
abbrev pub row_text : Part → List ℕ
row_text p = left 12 p.name ++ encode_upper (p.at / 256 ∷ p.at % 256 ∷ []) ++ right 8 p.bytes ++ right 8 p.price ++ 10 ∷ []

-- the rows of parts
abbrev pub rows_text : List Part → List ℕ
rows_text ps = flat_map row_text ps

-- the whole program
abbrev pub sum_part : ℕ → Program → Part
sum_part size program = record { name = codes "sum"; at = PROLOGUE_AT; bytes = size; price = cost program }

-- what is left of both rooms; none of the cost if it is above the most that `compile` accepts
abbrev pub left_part : ℕ → Program → Part
left_part size program = record { name = codes "left"; at = PROLOGUE_AT + size; bytes = 0xA000 - (PROLOGUE_AT + size); price = most_cost - cost program }

-- the map: a heading, the parts, their sums, and what is left
abbrev pub map_text : List (ℕ × ℕ) → ℕ → ℕ → Program → List ℕ
map_text starts table size program =
    codes "part        addr   bytes    cost" ++ 10 ∷ [] ++ rows_text (parts starts table size program) ++ row_text (sum_part size program) ++ row_text (left_part size program)
