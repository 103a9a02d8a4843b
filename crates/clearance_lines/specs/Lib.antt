pub mod ArmPaths
pub mod Clearances
pub mod Measured
