-- ── what is read of a source ──
-- the bad lines that were found so far, and what the first one is
pub mod Checked
-- the lines with a number that were read so far, and the program that they make
pub mod Entered
-- the loop that reads the lines
pub mod Read
-- what the lines of a file make, if none is bad
pub mod Makes
-- ── verdicts ──
-- lines that are too deep
pub mod Depth
-- the verdict and the compiler's answer
pub mod Agreed
-- what the compiler tells of a program's size
pub mod Measured
-- ── warnings ──
-- the last line that has a number
pub mod Later
-- the statement of a line of a program
pub mod Found
-- ── all that is told ──
-- what becomes of a source and what is told of it, by what was read
pub mod Judged
-- ── notes ──
-- patterns in an empty text
pub mod Unfit
