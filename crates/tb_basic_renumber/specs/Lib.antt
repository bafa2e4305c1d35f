-- a line with other numbers
pub mod Lines
-- the ends of lines
pub mod Ends
-- the new text
pub mod Texts
-- what is answered
pub mod Answers
-- a program with other line numbers
pub mod Renumbered
-- jumps that can't be renumbered
pub mod Jumps
-- the law of runs
pub mod Runs
