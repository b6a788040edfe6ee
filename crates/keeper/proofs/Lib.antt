pub mod Steps
pub mod Acts
