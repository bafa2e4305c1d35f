-- what is written below a header is read as it was
pub mod BelowRead
-- decimal text is read as its number
pub mod Decimals
-- the lines of a text that is written are those that it is read as
pub mod GoodLines
-- a header that is written is read as what it asks for
pub mod HeaderRead
-- the lines of a hunk
pub mod Hunks
-- a text without lines
pub mod Lines
-- lines that were sent are read as they were
pub mod MarkedLines
-- where the first piece of a text ends
pub mod Pieces
-- what is read can come of a run
pub mod ReadWritable
-- a transcript that is written is read as it was
pub mod RoundTrip
-- whether two transcripts are the same, and how far
pub mod Same
