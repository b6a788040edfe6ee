pub mod Archives
pub mod Steps
pub mod Sections
pub mod Printed
