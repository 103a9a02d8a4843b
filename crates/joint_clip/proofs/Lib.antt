pub mod Fractions
pub mod Ways
pub mod Parts
pub mod Sides
pub mod Axes
pub mod NamedAxes
pub mod Beyond
pub mod PassingBy
pub mod Bounds
pub mod Staying
mod Examples
