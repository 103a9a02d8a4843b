pub mod Names
pub mod Calls
pub mod Expressions
pub mod Statements
pub mod DeclaredNames
pub mod Data
pub mod Tasks
