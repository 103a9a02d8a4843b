pub mod Compiling
pub mod Running
pub mod ZonesMissed
pub mod Stalling
