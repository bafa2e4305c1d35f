-- The crate's slot code as plain data.
use Rattle.std.specs.Prelude.{List, map}
use Rattle.tb_words.specs.Letters.{letter_index}
use Rattle.tb_basic_syntax.specs.Source.{Numbered}
use Rattle.tb_lower.specs.declared.slot_code.SlotInstr.{SlotInstr}
use Rattle.tb_lower.specs.declared.slot_code.SlotInstr.TheVariants as instr
use Rattle.tb_lower.specs.declared.slot_code.SlotLine.{SlotLine}
use Rattle.tb_lower.specs.Slots.{Instr, Put, Load, Store, Negate, Compute, Random, SendText, SendNumber, SendZone, SendNewline, Input, Poll, Hold, LeaveUnless}
use Rattle.tb_lower.specs.Slots.{Jump, Call, JumpTo, CallTo, Return, End, SlotCode}

-- an instruction; a letter by its index, 0 for A
abbrev pub instr_of : SlotInstr → Instr
instr_of (instr.Put k n) = Put k n
instr_of (instr.Load k x) = Load k (letter_index x)
instr_of (instr.Store x) = Store (letter_index x)
instr_of (instr.Negate k) = Negate k
instr_of (instr.Compute op k) = Compute op k
instr_of (instr.Random k) = Random k
instr_of (instr.SendText t) = SendText t.items
instr_of instr.SendNumber = SendNumber
instr_of instr.SendZone = SendZone
instr_of instr.SendNewline = SendNewline
instr_of (instr.Input x) = Input (letter_index x)
instr_of instr.Poll = Poll
instr_of instr.Hold = Hold
instr_of (instr.LeaveUnless rel) = LeaveUnless rel
instr_of instr.Jump = Jump
instr_of instr.Call = Call
instr_of (instr.JumpTo target) = JumpTo target
instr_of (instr.CallTo target) = CallTo target
instr_of instr.Return = Return
instr_of instr.End = End

-- a line's list under its number
abbrev pub slot_line_of : SlotLine → Numbered (List Instr)
slot_line_of line = record { number = line.number; content = map instr_of line.code.items }

-- the model of slot code is the list of its lines
abbrev pub code_of : List SlotLine → SlotCode
code_of lines = map slot_line_of lines
