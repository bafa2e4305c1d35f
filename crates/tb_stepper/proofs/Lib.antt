pub mod GivingBack
pub mod Walking
pub mod Following
