pub mod Endings
pub mod LookedUp
pub mod Orders
pub mod Rows
pub mod Safe
pub mod Stepping
