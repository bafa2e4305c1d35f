pub mod Undone
pub mod Changing
pub mod Built
pub mod Entries
pub mod Fair
