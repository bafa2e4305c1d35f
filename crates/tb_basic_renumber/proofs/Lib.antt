-- the ends of lines
mod FirstEnds
-- where lines are left, text is left
mod Kept
-- new numbers keep the order of lines
pub mod Order
-- what is found at a line's new number
pub mod Found
-- steps that are the same, but for line numbers
pub mod Alike
-- what a line does, step by step
pub mod LineSteps
-- whole runs
pub mod Whole
