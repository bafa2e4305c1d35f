-- lists that are compared
pub mod Lists
