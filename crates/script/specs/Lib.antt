pub mod Numbers
pub mod Lines
pub mod Cursors
pub mod Printing
pub mod Pages
pub mod Texts
pub mod Replay
pub mod Sizes
