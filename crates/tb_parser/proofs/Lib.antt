-- ── a line ──
-- the walks over a line, byte by byte
pub mod Steps
-- the walks over a line with signs, byte by byte
pub mod SignSteps
-- bytes that come next, and words of them
pub mod Written
-- the longest first word of a statement
pub mod Longest
-- digits at the front
pub mod Numbers
-- what the readers' answers say of a text
pub mod ReaderAnswers
-- what an answer says, from the outcomes that the definitions allow
pub mod Outcomes
-- ── a file ──
-- a file read line by line: what is left decides the whole
pub mod Runs
-- a program's map and its lines as plain data
pub mod Maps
-- ── the laws ──
-- a file's program has its numbers in rising order
pub mod Rising
-- its statements are spelled by texts that are no longer than a line
pub mod Texts
-- no text, line or file has two meanings
pub mod Unique
-- at a place there is one token, and a line has one list of tokens
pub mod OneToken
-- what follows REM is one token
pub mod Remarks
-- a line without signs is read alike in each notation
pub mod Alike
-- good sources are those that are not refused
pub mod Programs
