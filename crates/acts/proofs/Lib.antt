pub mod Names
pub mod Keeps
pub mod Acts
