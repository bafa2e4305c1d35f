mod Filling
mod Refusing
mod Appending
-- the end of what was sent tells the fault
pub mod Ending
