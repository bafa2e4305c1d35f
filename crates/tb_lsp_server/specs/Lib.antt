pub mod Life
pub mod Notices
pub mod Texts
pub mod Replies
pub mod Outcomes
pub mod Dialogue
