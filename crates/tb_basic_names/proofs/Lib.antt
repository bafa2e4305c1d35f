-- what reading a line answers
mod Reading
-- lines that are read in one notation
mod ReadIn
-- which line stands, while lines are read
mod Standing
-- the line that stands gives the program its line
mod Given
-- a line whose number a later one has does nothing
mod Superseded
-- what follows REM names nothing
mod Unnamed
