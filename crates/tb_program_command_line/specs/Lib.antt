-- the commands by their rows
pub mod Table
-- what is read of the arguments
pub mod Values
-- the job of each command
pub mod Asked
-- words that are a name but for two neighbours that changed places
pub mod Swaps
