pub mod First
pub mod Zones
pub mod Outputs
pub mod Touched
