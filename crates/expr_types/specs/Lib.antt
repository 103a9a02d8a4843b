pub mod Arguments
pub mod Calls
pub mod Places
pub mod Typing
pub mod Views
