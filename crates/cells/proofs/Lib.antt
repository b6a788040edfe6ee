pub mod Free
pub mod Masks
pub mod Runs
pub mod Search
