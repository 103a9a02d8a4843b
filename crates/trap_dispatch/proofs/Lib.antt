pub mod Fired
mod Mapped
pub mod Positions
pub mod Queued
mod Room
mod Tests
mod Turned
