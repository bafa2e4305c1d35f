-- ── code in memory ──
-- bytes, and the pieces of code that they are
pub mod Emitted
-- what is kept of the state when bytes are written
pub mod Frames
-- ── from laws to the promise ──
-- the code keeps the program
pub mod Headline
-- a machine that reaches each next state of a run keeps that run
pub mod Inductions
-- from laws of views to the run of a program
pub mod Joins
-- at a line's start, the program is at that line
pub mod LineStarts
-- the promise on line starts
pub mod Marks
-- ── states, labels and pieces ──
-- how a view represents a state of the slot code
pub mod Mirrors
-- the numbers of labels, and the templates' bytes
pub mod Numbers
-- what the prologue leaves
pub mod Opening
-- pieces of code at any address
pub mod Pieces
-- the places of a run are lines of the program
pub mod Placed
-- templates as instructions at their addresses
pub mod Resolved
-- when a routine has returned
pub mod Returning
-- ── runs ──
-- runs in which line starts are counted
pub mod Starts
-- steps of one or more slot instructions
pub mod Strides
-- two functions that say where lines begin
pub mod SameStarts
-- what a turn of INPUT leaves
pub mod Turns
