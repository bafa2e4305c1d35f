pub mod Options
pub mod Remarks
pub mod Words
