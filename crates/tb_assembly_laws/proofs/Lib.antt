-- lines as they are written
pub mod Pieces
-- parts are tokens
pub mod Scanning
-- words mean the same
pub mod Words
-- operands
pub mod Operands
-- lines
pub mod Lines
-- the values of addresses and bytes, and modes
pub mod Values
-- where statements lie
pub mod Placing
-- what statements make
pub mod Making
-- addresses that take one byte
pub mod Shortening
-- texts, line by line
pub mod Texts
-- above the zero page
pub mod Above
-- worked rows
mod Rows
-- trees are read as their steps
pub mod Reading
-- the steps of trees make their values
pub mod Running
-- the values of texts
pub mod TreeValues
