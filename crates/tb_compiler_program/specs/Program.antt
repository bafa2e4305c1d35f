-- The code of a whole program, as items of the assembler from the block's address on.
use Rattle.std.specs.Prelude.{◌≡◌, ℕ, ◌+◌, ◌-◌, ◌<◌, List, [], ◌∷◌, ◌++◌, length, replicate}
use Rattle.tb_asm.specs.declared.items.Operand.TheVariants as operand
use Rattle.tb_asm.specs.Layout.{Entry, bytes, word}
use Rattle.tb_basic_syntax.specs.Source.{Numbered, numbers}
use Rattle.tb_basic_meaning.specs.Control.{highest}
use Rattle.tb_lower.specs.Slots.{Instr, Poll, SlotCode}
use Rattle.tb_lower.specs.Ranges.{AreInRange}
use Rattle.tb_compiler_selection.specs.Groups.{Group}
use Rattle.tb_compiler_selection.specs.Select.{select}
use Rattle.tb_runtime16.specs.Block.{block_bytes}
use Rattle.tb_runtime16.specs.Addresses.{PROLOGUE_AT}
use Rattle.tb_compiled_kept.specs.Addresses.{LINES_AT}
use Rattle.tb_compiler_templates.specs.declared.labels.Target.{Target}
use Rattle.tb_compiler_templates.specs.declared.labels.Target.TheVariants.{Line, Past, Table}
use Rattle.tb_compiler_templates.specs.Labels.{label_of}
use Rattle.tb_compiler_templates.specs.Templates.{here, faulted, next_line}
use Rattle.tb_compiler_templates.specs.GroupTemplates.{group_template}
use Rattle.tb_compiler_templates.specs.Breaks.{some_leaves, polled, behind}
use Rattle.tb_compiler_program.specs.Search.{compares, find_code}

-- the groups of a line from group i on, one after another
abbrev pub rest_code : List ℕ → ℕ → ℕ → ℕ → List Group → List Entry
rest_code ns seed n i [] = []
rest_code ns seed n i (g ∷ gs) = group_template ns seed n i g ++ rest_code ns seed n (i + 1) gs

-- a line's list: it takes an answer and then does its groups, with what is done for the STOP key before or behind them
abbrev pub list_code : List ℕ → ℕ → ℕ → List Instr → List Entry
list_code ns seed n (Poll ∷ is) =
    let away = some_leaves (select is) in polled away n ++ (rest_code ns seed n 1 (select is) ++ behind away n)
list_code ns seed n is = rest_code ns seed n 1 (select is)

-- a line at its label; after its list it falls into what follows it
abbrev pub line_code : List ℕ → ℕ → Numbered (List Instr) → List Entry
line_code ns seed line = here (Line line.number) ∷ list_code ns seed line.number line.content

-- the code of lines, one after another
abbrev pub lines_code : List ℕ → ℕ → SlotCode → List Entry
lines_code ns seed [] = []
lines_code ns seed (line ∷ lines) = line_code ns seed line ++ lines_code ns seed lines

-- fault 7, at the highest line: the last line falls into it
abbrev pub past_code : List ℕ → List Entry
past_code ns = here Past ∷ faulted (highest ns) 7

-- an entry of the line table: the line's number and the address of its code
abbrev pub row_code : ℕ → List Entry
row_code n = word (operand.Word n) ∷ word (operand.Label (label_of (Line n))) ∷ []

-- the entries of the line table for these line numbers
abbrev pub rows_code : List ℕ → List Entry
rows_code [] = []
rows_code (n ∷ ns) = row_code n ++ rows_code ns

-- the line table, at its label
abbrev pub table_code : List ℕ → List Entry
table_code ns = here Table ∷ rows_code ns

-- the block, and zero bytes up to the lines
abbrev pub block_code : List Entry
block_code = bytes block_bytes ∷ bytes (replicate (LINES_AT - PROLOGUE_AT - length block_bytes) 0) ∷ []

-- a program: the block, the lines in order, and what belongs to none of them
abbrev pub program_code : ℕ → SlotCode → List Entry
program_code seed code =
    let ns = numbers code in
    block_code ++ (lines_code ns seed code ++ (past_code ns ++ (find_code (compares code) ns ++ table_code ns)))

-- code whose operands are in their ranges, with lists and lines that can be counted by a word
abbrev pub AreCodable : SlotCode → Type 0
AreCodable [] = Unit {0}
AreCodable (line ∷ lines) = AreInRange 256 line.content × (length line.content < 65536) × AreCodable lines

-- the first of these lines, or past all of them
abbrev pub first_of : SlotCode → Target
first_of [] = Past
first_of (line ∷ lines) = Line line.number

-- after each of these lines of a program comes the next of them
abbrev pub AreInTurn : List ℕ → SlotCode → Type 0
AreInTurn ns [] = Unit {0}
AreInTurn ns (line ∷ lines) = (first_of lines ≡ next_line ns line.number) × AreInTurn ns lines
