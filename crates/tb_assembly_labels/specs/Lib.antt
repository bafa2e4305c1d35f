-- what a label file is
pub mod Lines
-- the places and addresses that labels name
pub mod Places
