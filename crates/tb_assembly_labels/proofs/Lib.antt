-- names are text
pub mod Names
