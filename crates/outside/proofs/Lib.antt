mod Examples
pub mod Counting
pub mod Writing
