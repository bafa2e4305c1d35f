-- How many bytes the code of a group takes at most, by its instructions, and that of a program; and what it costs at least.
use Rattle.std.specs.Prelude.{ℕ, ◌+◌, List, [], ◌∷◌, length}
use Rattle.tb_lower.specs.Slots.{Instr, Put, Load, Store, Negate, Compute, Random, SendText, SendNumber, SendZone, SendNewline, Input, Poll, Hold, LeaveUnless}
use Rattle.tb_lower.specs.Slots.{Jump, Call, JumpTo, CallTo, Return, End, SlotCode}

-- what an instruction adds at most to the code of its group, whatever the group; of a poll, that at a line's beginning
abbrev pub room : Instr → ℕ
room (Put k w) = 10
room (Load k x) = 12
room (Store x) = 12
room (Negate k) = 17
room (Compute op k) = 76
room (Random k) = 43
room (SendText bs) = 19 + length bs
room SendNumber = 13
room SendZone = 3
room SendNewline = 10
room (Input x) = 25
room Poll = 13
room Hold = 12
room (LeaveUnless rel) = 24
room Jump = 28
room Call = 39
room (JumpTo target) = 9
room (CallTo target) = 59
room Return = 49
room End = 1

-- what the instructions of a list add at most to the code of their groups
abbrev pub list_room : List Instr → ℕ
list_room [] = 0
list_room (i ∷ is) = room i + list_room is

-- what a program's lines take at most, each with 4 bytes in the line table and 9 for the STOP key's code
abbrev pub lines_room : SlotCode → ℕ
lines_room [] = 0
lines_room (line ∷ lines) = 13 + list_room line.content + lines_room lines

-- what fault 7 and the search take at most
abbrev pub rest_room : ℕ
rest_room = 32

-- ── prices ──
-- what the program's cost has for an instruction at least
abbrev pub price : Instr → ℕ
price (Put k w) = 48
price (Load k x) = 48
price (Negate k) = 48
price (Compute op k) = 48
price (Random k) = 48
price (SendText bs) = 24 + length bs
price SendNumber = 24
price (Input x) = 32
price (LeaveUnless rel) = 64
price Jump = 48
price Call = 48
price (JumpTo target) = 96
price (CallTo target) = 96
price Return = 48
price _ = 0

-- what the program's cost has for the instructions of a list at least
abbrev pub list_price : List Instr → ℕ
list_price [] = 0
list_price (i ∷ is) = price i + list_price is

-- what the program's cost has for its lines at least: 36 for each, and what it has for its instructions
abbrev pub lines_price : SlotCode → ℕ
lines_price [] = 0
lines_price (line ∷ lines) = 36 + list_price line.content + lines_price lines

-- what a program's cost has besides its lines
abbrev pub rest_price : ℕ
rest_price = 64
