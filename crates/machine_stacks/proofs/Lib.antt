pub mod Examples
pub mod Framing
pub mod Placing
pub mod Rows
pub mod Runs
pub mod Stacking
