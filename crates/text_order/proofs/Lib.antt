pub mod Stands
pub mod Tokens
pub mod Statements
pub mod Modules
pub mod Labels
