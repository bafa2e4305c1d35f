-- when two transcripts are the same
pub mod Comparing
-- what a transcript says
pub mod Contents
-- where a run differs from what was wanted
pub mod Differing
-- the header
pub mod Header
-- what begins lines, and the numbers in them
pub mod Marks
-- what a line of the header asks for
pub mod Options
-- what a transcript's text says
pub mod Reading
-- why a line is refused, in words
pub mod Reasons
-- the canonical text of a transcript
pub mod Writing
