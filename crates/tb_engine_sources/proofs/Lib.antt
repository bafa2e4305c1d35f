pub mod Delivered
pub mod ReadSources
pub mod Output
pub mod Loadable
mod Refused
mod Stepped
mod PlayedSources
pub mod Noted
