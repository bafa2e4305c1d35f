-- Each routine's bytes are among the block's.
use Rattle.std.proofs.Common.{ℕ, List, ◌++◌}
use Rattle.tb_machine_reaching.specs.View.{Part, Holds, part_at}
use Rattle.tb_machine_reaching.proofs.Parts.{holds_itself, holds_then, part_front, part_back}
use Rattle.tb_runtime16.specs.Addresses.{PROLOGUE_AT, SEND_AT, MULTIPLY_AT, DIVIDE_AT, RANDOM_AT, NUMBER_AT, TEXT_AT, ZONE_AT, INPUT_AT, SEARCH_AT, PUSH_AT, POP_AT, FAULT_LINE_AT, FAULT_AT, POLL_AT}
use Rattle.tb_runtime16.specs.declared.code.TheConstants.{PROLOGUE_BYTES, SEND_BYTES, MULTIPLY_BYTES, DIVIDE_BYTES, RANDOM_BYTES, NUMBER_BYTES, TEXT_BYTES}
use Rattle.tb_runtime16.specs.declared.code.TheConstants.{ZONE_BYTES, INPUT_BYTES, SEARCH_BYTES, PUSH_BYTES, POP_BYTES, FAULT_LINE_BYTES, FAULT_BYTES}
use Rattle.tb_runtime16.specs.declared.code.TheConstants.{POLL_BYTES}
use Rattle.tb_runtime16.specs.Block.{block_part}

-- ---- the routines' bytes at their addresses, each by itself, so that a run looks a byte up among few
abbrev pub prologue_part : Part
prologue_part = part_at PROLOGUE_AT PROLOGUE_BYTES

abbrev pub send_part : Part
send_part = part_at SEND_AT SEND_BYTES

abbrev pub multiply_part : Part
multiply_part = part_at MULTIPLY_AT MULTIPLY_BYTES

abbrev pub divide_part : Part
divide_part = part_at DIVIDE_AT DIVIDE_BYTES

abbrev pub random_part : Part
random_part = part_at RANDOM_AT RANDOM_BYTES

abbrev pub number_part : Part
number_part = part_at NUMBER_AT NUMBER_BYTES

abbrev pub text_part : Part
text_part = part_at TEXT_AT TEXT_BYTES

abbrev pub zone_part : Part
zone_part = part_at ZONE_AT ZONE_BYTES

abbrev pub input_part : Part
input_part = part_at INPUT_AT INPUT_BYTES

abbrev pub search_part : Part
search_part = part_at SEARCH_AT SEARCH_BYTES

abbrev pub fault_line_part : Part
fault_line_part = part_at FAULT_LINE_AT FAULT_LINE_BYTES

abbrev pub fault_part : Part
fault_part = part_at FAULT_AT FAULT_BYTES

abbrev pub poll_part : Part
poll_part = part_at POLL_AT POLL_BYTES

-- Push and Pop, one after the other
abbrev pub returns_part : Part
returns_part = part_at PUSH_AT (PUSH_BYTES ++ POP_BYTES)

-- ---- the block from each routine on
abbrev poll_on : List ℕ
poll_on = POLL_BYTES

abbrev fault_on : List ℕ
fault_on = FAULT_BYTES ++ poll_on

abbrev fault_line_on : List ℕ
fault_line_on = FAULT_LINE_BYTES ++ fault_on

abbrev pop_on : List ℕ
pop_on = POP_BYTES ++ fault_line_on

abbrev push_on : List ℕ
push_on = PUSH_BYTES ++ pop_on

abbrev search_on : List ℕ
search_on = SEARCH_BYTES ++ push_on

abbrev input_on : List ℕ
input_on = INPUT_BYTES ++ search_on

abbrev zone_on : List ℕ
zone_on = ZONE_BYTES ++ input_on

abbrev text_on : List ℕ
text_on = TEXT_BYTES ++ zone_on

abbrev number_on : List ℕ
number_on = NUMBER_BYTES ++ text_on

abbrev multiply_on : List ℕ
multiply_on = MULTIPLY_BYTES ++ number_on

abbrev random_on : List ℕ
random_on = RANDOM_BYTES ++ multiply_on

abbrev divide_on : List ℕ
divide_on = DIVIDE_BYTES ++ random_on

abbrev send_on : List ℕ
send_on = SEND_BYTES ++ divide_on

abbrev prologue_on : List ℕ
prologue_on = PROLOGUE_BYTES ++ send_on

from_prologue : Holds (part_at PROLOGUE_AT prologue_on) block_part
from_prologue = holds_itself block_part

from_send : Holds (part_at SEND_AT send_on) block_part
from_send = holds_then (part_at SEND_AT send_on) (part_at PROLOGUE_AT prologue_on) block_part (part_back PROLOGUE_AT PROLOGUE_BYTES send_on) from_prologue

from_divide : Holds (part_at DIVIDE_AT divide_on) block_part
from_divide = holds_then (part_at DIVIDE_AT divide_on) (part_at SEND_AT send_on) block_part (part_back SEND_AT SEND_BYTES divide_on) from_send

from_random : Holds (part_at RANDOM_AT random_on) block_part
from_random = holds_then (part_at RANDOM_AT random_on) (part_at DIVIDE_AT divide_on) block_part (part_back DIVIDE_AT DIVIDE_BYTES random_on) from_divide

from_multiply : Holds (part_at MULTIPLY_AT multiply_on) block_part
from_multiply = holds_then (part_at MULTIPLY_AT multiply_on) (part_at RANDOM_AT random_on) block_part (part_back RANDOM_AT RANDOM_BYTES multiply_on) from_random

from_number : Holds (part_at NUMBER_AT number_on) block_part
from_number = holds_then (part_at NUMBER_AT number_on) (part_at MULTIPLY_AT multiply_on) block_part (part_back MULTIPLY_AT MULTIPLY_BYTES number_on) from_multiply

from_text : Holds (part_at TEXT_AT text_on) block_part
from_text = holds_then (part_at TEXT_AT text_on) (part_at NUMBER_AT number_on) block_part (part_back NUMBER_AT NUMBER_BYTES text_on) from_number

from_zone : Holds (part_at ZONE_AT zone_on) block_part
from_zone = holds_then (part_at ZONE_AT zone_on) (part_at TEXT_AT text_on) block_part (part_back TEXT_AT TEXT_BYTES zone_on) from_text

from_input : Holds (part_at INPUT_AT input_on) block_part
from_input = holds_then (part_at INPUT_AT input_on) (part_at ZONE_AT zone_on) block_part (part_back ZONE_AT ZONE_BYTES input_on) from_zone

from_search : Holds (part_at SEARCH_AT search_on) block_part
from_search = holds_then (part_at SEARCH_AT search_on) (part_at INPUT_AT input_on) block_part (part_back INPUT_AT INPUT_BYTES search_on) from_input

from_push : Holds (part_at PUSH_AT push_on) block_part
from_push = holds_then (part_at PUSH_AT push_on) (part_at SEARCH_AT search_on) block_part (part_back SEARCH_AT SEARCH_BYTES push_on) from_search

from_pop : Holds (part_at POP_AT pop_on) block_part
from_pop = holds_then (part_at POP_AT pop_on) (part_at PUSH_AT push_on) block_part (part_back PUSH_AT PUSH_BYTES pop_on) from_push

from_fault_line : Holds (part_at FAULT_LINE_AT fault_line_on) block_part
from_fault_line = holds_then (part_at FAULT_LINE_AT fault_line_on) (part_at POP_AT pop_on) block_part (part_back POP_AT POP_BYTES fault_line_on) from_pop

from_fault : Holds (part_at FAULT_AT fault_on) block_part
from_fault = holds_then (part_at FAULT_AT fault_on) (part_at FAULT_LINE_AT fault_line_on) block_part (part_back FAULT_LINE_AT FAULT_LINE_BYTES fault_on) from_fault_line

from_poll : Holds (part_at POLL_AT poll_on) block_part
from_poll = holds_then (part_at POLL_AT poll_on) (part_at FAULT_AT fault_on) block_part (part_back FAULT_AT FAULT_BYTES poll_on) from_fault

-- ---- code that holds the block holds each routine
pub prologue_in : (code : Part) → Holds block_part code → Holds prologue_part code
prologue_in code block = holds_then prologue_part block_part code (holds_then prologue_part (part_at PROLOGUE_AT prologue_on) block_part
    (part_front PROLOGUE_AT PROLOGUE_BYTES send_on) from_prologue) block

-- the block holds Send
pub send_in : (code : Part) → Holds block_part code → Holds send_part code
send_in code block = holds_then send_part block_part code (holds_then send_part (part_at SEND_AT send_on) block_part (part_front SEND_AT SEND_BYTES divide_on) from_send) block

-- the block holds Multiply
pub multiply_in : (code : Part) → Holds block_part code → Holds multiply_part code
multiply_in code block = holds_then multiply_part block_part code (holds_then multiply_part (part_at MULTIPLY_AT multiply_on) block_part
    (part_front MULTIPLY_AT MULTIPLY_BYTES number_on) from_multiply) block

-- the block holds Divide
pub divide_in : (code : Part) → Holds block_part code → Holds divide_part code
divide_in code block = holds_then divide_part block_part code (holds_then divide_part (part_at DIVIDE_AT divide_on) block_part (part_front DIVIDE_AT DIVIDE_BYTES random_on) from_divide) block

-- the block holds Random
pub random_in : (code : Part) → Holds block_part code → Holds random_part code
random_in code block = holds_then random_part block_part code (holds_then random_part (part_at RANDOM_AT random_on) block_part (part_front RANDOM_AT RANDOM_BYTES multiply_on) from_random) block

-- the block holds Number
pub number_in : (code : Part) → Holds block_part code → Holds number_part code
number_in code block = holds_then number_part block_part code (holds_then number_part (part_at NUMBER_AT number_on) block_part (part_front NUMBER_AT NUMBER_BYTES text_on) from_number) block

-- the block holds Text
pub text_in : (code : Part) → Holds block_part code → Holds text_part code
text_in code block = holds_then text_part block_part code (holds_then text_part (part_at TEXT_AT text_on) block_part (part_front TEXT_AT TEXT_BYTES zone_on) from_text) block

-- the block holds Zone
pub zone_in : (code : Part) → Holds block_part code → Holds zone_part code
zone_in code block = holds_then zone_part block_part code (holds_then zone_part (part_at ZONE_AT zone_on) block_part (part_front ZONE_AT ZONE_BYTES input_on) from_zone) block

-- the block holds Input
pub input_in : (code : Part) → Holds block_part code → Holds input_part code
input_in code block = holds_then input_part block_part code (holds_then input_part (part_at INPUT_AT input_on) block_part (part_front INPUT_AT INPUT_BYTES search_on) from_input) block

-- the block holds Search
pub search_in : (code : Part) → Holds block_part code → Holds search_part code
search_in code block = holds_then search_part block_part code (holds_then search_part (part_at SEARCH_AT search_on) block_part (part_front SEARCH_AT SEARCH_BYTES push_on) from_search) block

-- the block holds Fault's entry with a line
pub fault_line_in : (code : Part) → Holds block_part code → Holds fault_line_part code
fault_line_in code block = holds_then fault_line_part block_part code (holds_then fault_line_part (part_at FAULT_LINE_AT fault_line_on) block_part
    (part_front FAULT_LINE_AT FAULT_LINE_BYTES fault_on) from_fault_line) block

-- the block holds Fault
pub fault_in : (code : Part) → Holds block_part code → Holds fault_part code
fault_in code block = holds_then fault_part block_part code (holds_then fault_part (part_at FAULT_AT fault_on) block_part (part_front FAULT_AT FAULT_BYTES poll_on) from_fault) block

-- the block holds Poll
pub poll_in : (code : Part) → Holds block_part code → Holds poll_part code
poll_in code block = holds_then poll_part block_part code from_poll block

-- the block holds Push and Pop
pub returns_in : (code : Part) → Holds block_part code → Holds returns_part code
returns_in code block = holds_then returns_part block_part code (holds_then returns_part (part_at PUSH_AT push_on) block_part
    (part_front PUSH_AT (PUSH_BYTES ++ POP_BYTES) fault_line_on) from_push) block
