pub mod Checks
pub mod Gives
pub mod Names
pub mod TypeChecks
