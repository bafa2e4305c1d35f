pub mod Reaching
pub mod View
pub mod Start
pub mod Laws
pub mod Hello
