pub mod Asking
pub mod Launching
pub mod Loading
pub mod Said
pub mod Setting
pub mod Stops
