pub mod Touches
pub mod Lying
pub mod Beside
pub mod Shapes
pub mod Sides
pub mod Parts
