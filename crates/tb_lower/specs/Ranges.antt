-- Operands in their ranges: 16 slots, 26 variables, words, and texts below a limit.
use Rattle.std.specs.Prelude.{ℕ, ◌+◌, ◌<◌, List, [], ◌∷◌, length}
use Rattle.tb_words.specs.Numbers.{LETTERS}
use Rattle.tb_lower.specs.Slots.{Instr, Put, Load, Store, Negate, Compute, Random, SendText, Input, JumpTo, CallTo, SlotCode}

-- an operator's right operand is in the slot after its left one
abbrev pub IsInRange : ℕ → Instr → Type 0
IsInRange limit (Put k n) = (k < 16) × (n < 65536)
IsInRange limit (Load k x) = (k < 16) × (x < LETTERS)
IsInRange limit (Store x) = x < LETTERS
IsInRange limit (Negate k) = k < 16
IsInRange limit (Compute op k) = k + 1 < 16
IsInRange limit (Random k) = k < 16
IsInRange limit (SendText t) = length t < limit
IsInRange limit (Input x) = x < LETTERS
IsInRange limit (JumpTo target) = target < 65536
IsInRange limit (CallTo target) = target < 65536
IsInRange limit _ = Unit {0}

-- each instruction of a list is in range
abbrev pub AreInRange : ℕ → List Instr → Type 0
AreInRange limit [] = Unit {0}
AreInRange limit (i ∷ is) = IsInRange limit i × AreInRange limit is

-- each list of slot code is in range
abbrev pub IsCodeInRange : ℕ → SlotCode → Type 0
IsCodeInRange limit [] = Unit {0}
IsCodeInRange limit (line ∷ lines) = AreInRange limit line.content × IsCodeInRange limit lines
