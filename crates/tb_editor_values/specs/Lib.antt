pub mod Ranges
pub mod Asked
pub mod Edits
