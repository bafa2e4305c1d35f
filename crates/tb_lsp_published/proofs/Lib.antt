-- which text is open under a name
mod Opened
-- what was published last of each text
mod Published
