-- texts character by character
pub mod Turns
-- what is written is read as the same
pub mod Back
-- worked rows
pub mod Rows
