-- ── steps of reading ──
-- steps of reading, taken apart
pub mod Steps
-- a word at the front of a text
pub mod Prefix
-- the value of a literal, counted up to 65,536
pub mod Literal
-- ── expressions ──
-- what is read is in the grammar
pub mod Sound
-- what is in the grammar is read
pub mod Complete
-- going on after an operator
pub mod Loop
-- the two laws of reading a whole expression
pub mod ExpressionLaws
-- ── statements ──
-- relations: what is read is in the grammar, and what is in the grammar is read
pub mod Relations
-- the lists of PRINT and INPUT: what is read is in the grammar, and what is in the grammar is read
pub mod Lists
-- the loops that read a text, the items of PRINT and the variables of INPUT
pub mod ListLoops
-- PRINT is not read as PR
pub mod PrintWord
-- a statement that is read is in the grammar
pub mod StatementSound
-- a statement in the grammar is read
pub mod StatementComplete
-- the two laws of reading a statement
pub mod StatementLaws
