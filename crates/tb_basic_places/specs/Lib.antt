pub mod Columns
pub mod Spans
