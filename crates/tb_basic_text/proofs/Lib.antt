-- where the first line of a source ends
pub mod FirstLine
