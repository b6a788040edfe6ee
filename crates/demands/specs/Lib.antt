pub mod Log
pub mod Promises
pub mod KeptOut
