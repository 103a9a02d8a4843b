pub mod Stepping
pub mod Rows
pub mod Running
pub mod Later
pub mod Ending
pub mod Closing
pub mod Begun
