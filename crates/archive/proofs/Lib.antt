pub mod Tests
pub mod Calls
pub mod One
