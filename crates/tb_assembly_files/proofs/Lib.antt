-- what an include makes of what was read
pub mod Included
