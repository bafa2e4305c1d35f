pub mod Envelopes
pub mod Refusals
pub mod Requests
