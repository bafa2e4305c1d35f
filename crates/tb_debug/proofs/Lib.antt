-- ── a run and its points ──
-- what a ROM gives a machine, it gives its registers
pub mod Roms
-- points of a run, one by one
pub mod Running
-- where lines begin, event by event
pub mod Beginning
-- going on quickly, where no line begins
pub mod Quietly
-- how many lines are begun
pub mod Counting
-- the events of a run as a list
pub mod EventLists
-- checkpoints are of the run
pub mod Keeping
-- checkpoints keep their distance, and the newest of them is near
pub mod Spacing
-- the run with more at the end of the keyboard's text
pub mod Typing
-- checkpoints that are typed to one by one
pub mod TypedLists
-- ── what a machine shows ──
-- marks of addresses
pub mod Marking
-- the lines to return to, one by one
pub mod Returns
-- lines of code, one by one
pub mod CodeLines
-- what is shown of memory is what the source has
pub mod SourceState
-- a debugger at a line's beginning shows the source
pub mod Sources
-- ── a debugger and its ways ──
-- breakpoints and watches that are turned
mod Turning
-- where ways end
pub mod Leading
-- where going on and going back stop
pub mod Stopping
-- why a way stops
pub mod Causing
-- where going on stops by a fault
mod Faulting
-- a command that moves the run tells its stop
pub mod Responding
