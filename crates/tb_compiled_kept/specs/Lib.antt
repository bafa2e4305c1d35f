pub mod Addresses
pub mod Pinned
pub mod Keeps
pub mod LineStarts
