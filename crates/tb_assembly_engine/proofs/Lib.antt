-- tests that decide
-- files that are read one after the other
pub mod Reading
-- files that are written one after the other
pub mod Writing
