pub mod Names
pub mod Calls
pub mod Parameters
pub mod Data
