pub mod Typed
pub mod Candidates
pub mod Offered
pub mod Items
pub mod Renamed
pub mod Rename
pub mod Edits
