pub mod Copies
pub mod Spelling
pub mod Pushing
pub mod Drawing
pub mod Rows
