-- ── expressions ──
-- the value of an expression
pub mod Values
-- what `eval` answers
pub mod Evaluation
-- ── programs ──
-- runs of any step that sends bytes
pub mod Steps
-- the state of a run between lines, and what moves it from line to line
pub mod Control
-- one variable's turn of INPUT
pub mod Input
-- what a program does, line by line
pub mod Meaning
-- a bound on the bytes of a program's code
pub mod Cost
-- the commas of a PRINT
pub mod Spaced
-- how many slots expressions need
pub mod Need
-- bounds of RND
pub mod Bounds
-- constant targets that are missing
pub mod Missing
-- ── the interpreter ──
-- its places and faults
pub mod Parts
-- its reading of numbers
pub mod Turns
-- its state and runs as those of the meaning
pub mod Interpreted
-- the numbers that are promised
pub mod Numbers
