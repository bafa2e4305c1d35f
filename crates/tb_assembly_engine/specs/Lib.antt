-- exit statuses
pub mod Outcomes
-- which files are read
pub mod Gathering
-- what is done with files
pub mod Deeds

-- endings of paths
