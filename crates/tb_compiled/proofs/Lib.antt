-- bounds of a text that is read as a statement
pub mod Reading
-- what a file's program has
pub mod SmallPrograms
