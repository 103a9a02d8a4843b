pub mod Rounding
pub mod Setpoints
mod Casts
mod Loops
mod Caps
mod Examples
