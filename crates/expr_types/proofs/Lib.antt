pub mod Counted
pub mod Loops
pub mod Shapes
