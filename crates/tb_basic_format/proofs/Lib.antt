-- ── a line ──
-- what is kept of a line, byte by byte
pub mod Keeping
-- no quote belongs to a sign
pub mod SignEnds
-- what is kept of a line has a line's end only where the line has it, and decides its squeezed bytes
pub mod KeptBytes
-- so it does where the line has signs
pub mod SignedBytes
-- where a condition ends, byte by byte
pub mod ConditionEnds
-- what comes of a line, by what was found of it
pub mod LineCases
-- ── a text ──
-- as many lines, each saying the same
pub mod SameText
-- the tidy text, line by line
pub mod TextSteps
-- a tidy text is its own tidy text
pub mod Twice
