pub mod Parts
pub mod Answering
pub mod OutputChanges
pub mod Changing
pub mod ZoneByZone
pub mod Tying
pub mod AtStart
pub mod Opening
pub mod Strangers
pub mod Growing
pub mod Going
pub mod Ready
pub mod Reading
pub mod Looks
mod Examples
