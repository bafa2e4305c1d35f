-- what names stand for
pub mod Names
-- the value of an expression
pub mod Values
-- bytes, words and addresses
pub mod Bytes
-- addressing modes
pub mod Modes
-- where statements lie
pub mod Places
-- the items of statements
pub mod Items
-- what statements mean
pub mod Meaning
-- branches that do not reach
pub mod Settling
-- what is answered
pub mod Answers
