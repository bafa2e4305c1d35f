pub mod Refused
pub mod Sources
pub mod Starting
pub mod Output
pub mod Stepping
pub mod Reading
pub mod Fitting
-- in which line a machine is
pub mod Places
-- by which fault a program ended
pub mod Faults
-- what a machine tells at the end of a run
pub mod Notes
-- a run with what its machine tells
pub mod Runs
-- what is told of a program that is played
pub mod Playing
-- the exit status of a strict run
pub mod Strictness
