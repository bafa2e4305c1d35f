-- names, and words in either case
pub mod Names
-- the tokens of a line
pub mod Tokens
-- the words of instructions and directives
pub mod Words
-- expressions, read from the left
pub mod Expressions
-- operands of instructions
pub mod Operands
-- lists of values and texts
pub mod Lists
-- the statements of a line
pub mod Statements
-- a line of text
pub mod Lines
-- what reading answers
pub mod Reads
