-- ── a run and its points ──
-- the events that a ROM gives
pub mod Roms
-- one event of a machine
pub mod Events
-- the points of a run, moments and checkpoints
pub mod Runs
-- where lines begin along a run
pub mod Begins
-- the line at an address
pub mod Lines
-- ── what a machine shows ──
-- the return list, bytes and code in memory
pub mod Readings
-- a source's program, or one without a source
pub mod Debuggees
-- what is shown at a line's beginning is the source's
pub mod Sources
-- ── a debugger and its ways ──
-- breakpoints and watches
pub mod Breakpoints
-- a debugger on the run of what it debugs
pub mod Debuggers
-- what is known while a stop is looked for
pub mod Searching
-- where going on and going back stop
pub mod Stopping
-- where commands lead that move a run
pub mod Leading
-- ── commands ──
-- which commands move a run, and which only tell
pub mod Kinds
-- what commands leave as it was
pub mod Leaving
-- what answers tell
pub mod Telling
