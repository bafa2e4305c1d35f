pub mod LastPublished
