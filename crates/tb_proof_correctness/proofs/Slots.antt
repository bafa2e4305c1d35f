-- What the slot instructions of a group do, and what they read.
-- a list in range reads 16 slots at most
pub mod SlotsRead
-- what the slot instructions of a group do, and what they read
pub mod SlotSide
-- what the slot instructions of a test do, and what they read
pub mod TestSide
-- what the slot instructions of a group with one word do, and what they read
pub mod OneWord
-- what the slot instructions of a variable's quotient times its divisor do, in slot j
pub mod MultipleSide
-- which instructions are groups of their own: those that are a single group when alone
pub mod Singles
