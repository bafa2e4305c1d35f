-- where the first word of a text ends
pub mod FirstWord
