pub mod Traps
pub mod Accepted
pub mod FitsTask
