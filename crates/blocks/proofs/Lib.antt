pub mod Covers
pub mod Seen
