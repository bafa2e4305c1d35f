-- ── how much is taken ──
-- cheap programs fit, and where the lines of programs are
pub mod Sized
-- items of the same shapes settle alike
pub mod Shapes
-- the first state of RND doesn't change how many bytes a program takes
pub mod Seeds
-- code that takes more bytes than there are
pub mod TooLong
-- ── where code is ──
-- where the lines of a compiled program begin
pub mod Placed
-- the texts of a line are in its settled code
pub mod Texts
-- ── what is promised ──
-- what is linked is what the door says of a compiled program
pub mod Promised
-- what is compiled keeps its program
pub mod Kept
-- what is compiled marks the lines of its program
pub mod Marked
-- what is compiled without signs keeps the program of a good source
pub mod GoodSources
-- what both calls compile is the same
pub mod Same
-- what linking answers is what the compiler answers
pub mod Answering
