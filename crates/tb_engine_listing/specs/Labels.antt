-- VICE's label file: a line for each address that has a name, by rising address.
use Rattle.std.specs.Prelude.{ℕ, ◌+◌, ◌*◌, ◌/◌, ◌%◌, List, [], ◌∷◌, ◌++◌, codes, map, flat_map}
use Rattle.std.specs.List.{range_with_len}
use Rattle.std.specs.Fmt.{decimal}
use Rattle.hex.specs.Hex.{encode_lower}
use Rattle.tb_words.specs.Numbers.{LETTERS}
use Rattle.tb_kernal.specs.Numbers.{CHRIN, CHROUT, GETIN}
use Rattle.tb_compiled_kept.specs.Addresses.{VARS, NOTES}
use Rattle.tb_runtime16.specs.Addresses.{PROLOGUE_AT, SEND_AT, entry_of}
use Rattle.tb_runtime16.specs.declared.addresses.Routine.{Routine}
use Rattle.tb_runtime16.specs.declared.addresses.Routine.TheVariants.{Multiply, Divide, Random, Number, Text, Zone, Input, Search, Push, Pop, FaultLine, Fault, Poll}

-- ── labels: each a name and an address ──
-- the name of a routine
abbrev pub name_of : Routine → List ℕ
name_of Multiply = codes "multiply"
name_of Divide = codes "divide"
name_of Random = codes "random"
name_of Number = codes "number"
name_of Text = codes "text"
name_of Zone = codes "zone"
name_of Input = codes "input"
name_of Search = codes "search"
name_of Push = codes "push"
name_of Pop = codes "pop"
name_of FaultLine = codes "fault_line"
name_of Fault = codes "fault"
name_of Poll = codes "poll"

-- the routines by rising address
abbrev pub all_routines : List Routine
all_routines = Divide ∷ Random ∷ Multiply ∷ Number ∷ Text ∷ Zone ∷ Input ∷ Search ∷ Push ∷ Pop ∷ FaultLine ∷ Fault ∷ Poll ∷ []

-- the label of a routine's entry
abbrev pub routine_label : Routine → List ℕ × ℕ
routine_label r = (name_of r, entry_of r)

-- the labels of the block
abbrev pub block_labels : List (List ℕ × ℕ)
block_labels = (codes "prologue", PROLOGUE_AT) ∷ (codes "send", SEND_AT) ∷ map routine_label all_routines

-- the label of a line, by its number and the address where its code begins
abbrev pub line_label : ℕ × ℕ → List ℕ × ℕ
line_label start = (codes "line" ++ decimal start.0, start.1)

-- the label of a variable, 0 for A
abbrev pub variable_label : ℕ → List ℕ × ℕ
variable_label i = (codes "var" ++ (65 + i) ∷ [], VARS + 2 * i)

-- the count of returns, and the services
abbrev pub service_labels : List (List ℕ × ℕ)
service_labels = (codes "notes", NOTES) ∷ (codes "chrin", CHRIN) ∷ (codes "chrout", CHROUT) ∷ (codes "getin", GETIN) ∷ []

-- the 26 variables, and what lies after them
abbrev pub data_labels : List (List ℕ × ℕ)
data_labels = map variable_label (range_with_len 0 LETTERS) ++ service_labels

-- a program's labels, by where its lines begin and where its line table does
abbrev pub all_labels : List (ℕ × ℕ) → ℕ → List (List ℕ × ℕ)
all_labels starts table = block_labels ++ (map line_label starts ++ ((codes "line_table", table) ∷ data_labels))

-- ── their text ──
-- `al C:0c00 .line10`: the line of a label
abbrev pub label_text : List ℕ × ℕ → List ℕ
label_text p = codes "al C:" ++ encode_lower (p.1 / 256 ∷ p.1 % 256 ∷ []) ++ codes " ." ++ p.0 ++ 10 ∷ []

-- the lines of labels
abbrev pub labels_text : List (List ℕ × ℕ) → List ℕ
labels_text ps = flat_map label_text ps
