pub mod Amid
pub mod Crews
pub mod Started
pub mod Runs
