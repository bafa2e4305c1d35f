-- how commands over files end, by what was done
pub mod Outcomes
-- which files a build writes
pub mod Names
-- which listings PRG files have
pub mod Listings
-- which texts commands make of what was read
pub mod Texts
-- what the work of a disk has in memory
pub mod Memory
-- what a build does with files
pub mod Builds
-- what a profile writes, and what it does with files
pub mod Profiles
-- what a web page is made of, and what making it does with files
pub mod Pages
