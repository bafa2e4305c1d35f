-- The routine block, as the code of this crate has it.
use Rattle.std.specs.Prelude.{◌≡◌, ℕ, ◌-◌, List, ◌++◌, length, take, drop}
use Rattle.tb_machine_reaching.specs.View.{Part, part_at}
use Rattle.tb_runtime16.specs.Addresses.{PROLOGUE_AT}
use Rattle.tb_runtime16.specs.declared.addresses.Routine.{Routine}
use Rattle.tb_runtime16.specs.declared.addresses.Routine.TheVariants.{Multiply, Divide, Random, Number, Text, Zone, Input, Search, Push, Pop, FaultLine, Fault, Poll}
use Rattle.tb_runtime16.specs.declared.code.TheConstants.{PROLOGUE_BYTES, SEND_BYTES, MULTIPLY_BYTES, DIVIDE_BYTES, RANDOM_BYTES, NUMBER_BYTES, TEXT_BYTES}
use Rattle.tb_runtime16.specs.declared.code.TheConstants.{ZONE_BYTES, INPUT_BYTES, SEARCH_BYTES, PUSH_BYTES, POP_BYTES, FAULT_LINE_BYTES, FAULT_BYTES}
use Rattle.tb_runtime16.specs.declared.code.TheConstants.{POLL_BYTES}

-- the bytes of the block, which are those of the code's table, one routine after another
abbrev pub block_bytes : List ℕ
block_bytes =
    PROLOGUE_BYTES ++ SEND_BYTES ++ DIVIDE_BYTES ++ RANDOM_BYTES ++ MULTIPLY_BYTES ++ NUMBER_BYTES ++ TEXT_BYTES ++ ZONE_BYTES ++ INPUT_BYTES
    ++ SEARCH_BYTES ++ PUSH_BYTES ++ POP_BYTES ++ FAULT_LINE_BYTES ++ FAULT_BYTES ++ POLL_BYTES

-- the bytes of the block at their addresses
abbrev pub block_part : Part
block_part = part_at PROLOGUE_AT block_bytes

-- a routine's bytes
abbrev pub bytes_of : Routine → List ℕ
bytes_of Multiply = MULTIPLY_BYTES
bytes_of Divide = DIVIDE_BYTES
bytes_of Random = RANDOM_BYTES
bytes_of Number = NUMBER_BYTES
bytes_of Text = TEXT_BYTES
bytes_of Zone = ZONE_BYTES
bytes_of Input = INPUT_BYTES
bytes_of Search = SEARCH_BYTES
bytes_of Push = PUSH_BYTES
bytes_of Pop = POP_BYTES
bytes_of FaultLine = FAULT_LINE_BYTES
bytes_of Fault = FAULT_BYTES
bytes_of Poll = POLL_BYTES

-- bytes are in the block from an address on
abbrev pub StandAt : ℕ → List ℕ → Type 0
StandAt address bytes = take (length bytes) (drop (address - PROLOGUE_AT) block_bytes) ≡ bytes
