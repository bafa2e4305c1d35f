pub mod Numbers
-- what is read of what the parser found
mod Found
-- a command that is found by a name has that name
mod Named
