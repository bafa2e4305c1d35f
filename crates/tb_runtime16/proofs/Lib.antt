-- ── calls and frames ──
-- each routine's bytes are among the block's
pub mod Within
-- the addresses that a routine does not change, and how it ends
pub mod Frames
-- routines above what their caller keeps on the stack
pub mod Called
-- ── sending ──
-- Send
pub mod SendRuns
-- the column after a text
pub mod Columns
-- Zone
pub mod ZoneRuns
-- Text
pub mod TextRuns
-- ── calculations ──
-- words in memory
pub mod InMemory
-- words in two bytes
pub mod Words
-- Multiply
pub mod MultiplyRuns
-- division without signs by sixteen rounds
pub mod WideRuns
-- division by a byte in eight rounds
pub mod NarrowRuns
-- division without signs, by either way
pub mod UnsignedRuns
-- Divide
pub mod DivideRuns
-- ── numbers ──
-- the digits of a number
pub mod DigitTexts
-- Number
pub mod NumberRuns
-- Random
pub mod RandomRuns
-- ── start, faults and the keyboard ──
-- the prologue
pub mod PrologueRuns
-- Fault
pub mod FaultRuns
-- Poll
pub mod PollRuns
-- ten times a word, and a digit
pub mod Tens
-- Input
pub mod InputRuns
-- ── returns and the line table ──
-- comparisons of words by two carries
pub mod Pointed
-- Push and Pop
pub mod ReturnsRuns
-- parts of a table
pub mod Tables
-- instructions through a pointer
pub mod Through
-- Search
pub mod SearchRuns
-- ── all routines ──
-- addresses of the program's state that routines do not change
pub mod StatePlaces
-- from a routine's law to the form that the lines' code needs
pub mod Gathered
-- the laws of all routines in one form
pub mod AllLaws
