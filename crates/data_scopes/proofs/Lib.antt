pub mod All
pub mod Begins
pub mod Counted
mod Examples
pub mod Keeping
pub mod ListAt
pub mod LoopRows
pub mod Meanings
pub mod Rowed
pub mod Shared
pub mod Typed
pub mod Within
