pub mod Shown
pub mod Come
