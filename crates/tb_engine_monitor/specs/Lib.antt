-- the text of a checkpoint
pub mod Checkpoints
-- the checkpoints of a program, and their file
pub mod Files
