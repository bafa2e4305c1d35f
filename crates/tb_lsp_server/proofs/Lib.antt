-- objects that get more members
pub mod Members
