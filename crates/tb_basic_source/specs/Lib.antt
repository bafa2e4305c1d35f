pub mod Lines
pub mod ShownBytes
