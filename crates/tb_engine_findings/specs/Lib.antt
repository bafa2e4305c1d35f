-- how sources are checked
pub mod Settings
-- ── the lines of a source ──
-- the lines with a number, and those of them that are too deep
pub mod Entries
-- the bad lines
pub mod BadLines
-- what is read of a source
pub mod Lines
-- which lines remain in the program
pub mod Remaining
-- ── verdicts ──
-- what becomes of a source, with all the reasons
pub mod Verdicts
-- a verdict compared with what the compiler answers
pub mod Agreement
-- ── what helps ──
-- words of other BASICs
pub mod ForeignWords
-- words one slip away from those of statements
pub mod NearWords
-- patterns of code, with classes of bytes
pub mod Patterns
-- the code around a place of a line
pub mod Surroundings
-- the rules for that code
pub mod Rules
-- the note on the first fault of a line
pub mod Notes
-- the warnings on a source that is compiled
pub mod Warnings
-- all that is told of a source
pub mod Findings
-- what is told to whoever takes any source that fits the memory
pub mod Fitted
-- the numbers that are promised
pub mod Numbers
