pub mod Counting
mod KeyFiles
pub mod Written
mod Reading
