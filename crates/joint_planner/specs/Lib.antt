pub mod Setpoints
pub mod Caps
