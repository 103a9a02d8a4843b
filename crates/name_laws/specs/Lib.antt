pub mod Declared
pub mod Rows
pub mod Meant
pub mod Meetings
pub mod Jumps
pub mod Constants
