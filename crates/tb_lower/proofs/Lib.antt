pub mod Folded
pub mod Values
pub mod Statements
pub mod Lists
pub mod Weighed
pub mod Ranged
pub mod Rows
