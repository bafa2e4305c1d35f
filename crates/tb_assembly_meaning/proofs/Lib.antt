-- rounds of settling
pub mod Rounds
-- a name more among names
pub mod Naming
-- the next of a list in a loop
pub mod Next
