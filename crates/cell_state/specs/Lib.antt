pub mod States
pub mod Codes
pub mod Due
pub mod Traces
pub mod Writes
