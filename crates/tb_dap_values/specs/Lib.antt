pub mod Arguments
pub mod Bodies
pub mod Requests
pub mod Stops
