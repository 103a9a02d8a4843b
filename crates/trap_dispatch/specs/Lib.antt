pub mod Firing
pub mod Queues
pub mod Tasks
pub mod Traps
