-- a dialogue with one part of a talker
pub mod Parts
