-- The laws of instructions that are groups of their own, and of uses of a word.
-- the law of a move: a word to a variable, or held
pub mod Moves
-- a fault that a line finds by itself: its number and the line are handed over in registers
pub mod Faults
-- the law of a line's beginning: an answer is taken in line; LINE is unchanged
pub mod Polled
-- a routine that is handed two words and gives one: up to its call, and after it
pub mod Handed
-- the laws of Put and Load as groups of their own
pub mod Quiet
-- the laws of what PRINT sends
pub mod Sending
-- the laws of conversions: 0 minus a word, and RND, which may fault
pub mod Conversions
-- the laws of END, and of jumps to a line's number
pub mod Leaving
-- the number of a line that is sought, compared with those of lines in turn
pub mod Comparing
-- the laws of jumps to a line whose number is a word
pub mod Finding
-- a return that is stored or taken in line: the code's pieces, and what they leave in memory
pub mod Returning
-- GOSUB to a constant line, and RETURN
pub mod Calling
-- the laws of INPUT, and of a poll inside a list
pub mod Asking
-- the law of each instruction that is a group of its own
pub mod SingleLaws
-- the laws of uses of a word: as a number that is sent, or as the number of a line for GOTO or GOSUB
pub mod UseLaws
