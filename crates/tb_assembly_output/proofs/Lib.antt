-- what is answered
pub mod Answering
