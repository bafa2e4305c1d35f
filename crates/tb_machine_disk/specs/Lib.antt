pub mod D64
pub mod Layout
pub mod Images
pub mod Names
