pub mod Adds
pub mod BuiltinForms
pub mod Contexts
pub mod Follows
pub mod Starts
