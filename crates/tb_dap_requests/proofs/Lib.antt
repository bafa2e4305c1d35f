pub mod Frames
pub mod Lists
pub mod Prefixes
pub mod Reports
