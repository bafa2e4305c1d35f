-- a name with a number behind a dot at its end
mod Names
-- worked rows
mod Rows
