pub mod Grammar
pub mod Reading
pub mod ReadValues
pub mod StatementReading
pub mod Statements
