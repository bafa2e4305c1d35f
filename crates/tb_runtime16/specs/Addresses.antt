-- Where the block and its routines begin.
use Rattle.std.specs.Prelude.{ℕ}
use Rattle.tb_memmap.specs.Regions.{CODE_START}
use Rattle.tb_runtime16.specs.declared.addresses.TheConstants as address
use Rattle.tb_runtime16.specs.declared.addresses.Routine.{Routine}
use Rattle.tb_runtime16.specs.declared.addresses.Routine.TheVariants.{Multiply, Divide, Random, Number, Text, Zone, Input, Search, Push, Pop, FaultLine, Fault, Poll}

-- ── the block and its routines ──
-- where the block begins: the prologue, which a program starts with
abbrev pub PROLOGUE_AT : ℕ
PROLOGUE_AT = CODE_START

-- the entry of Send
abbrev pub SEND_AT : ℕ
SEND_AT = address.SEND_AT

-- the entry of Multiply
abbrev pub MULTIPLY_AT : ℕ
MULTIPLY_AT = address.MULTIPLY_AT

-- the entry of Divide
abbrev pub DIVIDE_AT : ℕ
DIVIDE_AT = address.DIVIDE_AT

-- the entry of Random
abbrev pub RANDOM_AT : ℕ
RANDOM_AT = address.RANDOM_AT

-- the entry of Number
abbrev pub NUMBER_AT : ℕ
NUMBER_AT = address.NUMBER_AT

-- the entry of Text
abbrev pub TEXT_AT : ℕ
TEXT_AT = address.TEXT_AT

-- the entry of Zone
abbrev pub ZONE_AT : ℕ
ZONE_AT = address.ZONE_AT

-- the entry of Input
abbrev pub INPUT_AT : ℕ
INPUT_AT = address.INPUT_AT

-- the entry of Search
abbrev pub SEARCH_AT : ℕ
SEARCH_AT = address.SEARCH_AT

-- the entry of Push
abbrev pub PUSH_AT : ℕ
PUSH_AT = address.PUSH_AT

-- the entry of Pop
abbrev pub POP_AT : ℕ
POP_AT = address.POP_AT

-- the entry of Fault that takes the line's number in X and Y
abbrev pub FAULT_LINE_AT : ℕ
FAULT_LINE_AT = address.FAULT_LINE_AT

-- the entry of Fault
abbrev pub FAULT_AT : ℕ
FAULT_AT = address.FAULT_AT

-- the entry of Poll
abbrev pub POLL_AT : ℕ
POLL_AT = address.POLL_AT

-- where a routine is called
abbrev pub entry_of : Routine → ℕ
entry_of Multiply = MULTIPLY_AT
entry_of Divide = DIVIDE_AT
entry_of Random = RANDOM_AT
entry_of Number = NUMBER_AT
entry_of Text = TEXT_AT
entry_of Zone = ZONE_AT
entry_of Input = INPUT_AT
entry_of Search = SEARCH_AT
entry_of Push = PUSH_AT
entry_of Pop = POP_AT
entry_of FaultLine = FAULT_LINE_AT
entry_of Fault = FAULT_AT
entry_of Poll = POLL_AT
