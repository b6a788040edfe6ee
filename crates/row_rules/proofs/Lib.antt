pub mod Present
pub mod Owed
pub mod Rows
pub mod Holds
