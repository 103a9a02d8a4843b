pub mod Components
pub mod Values
pub mod Elements
pub mod Equality
pub mod Operators
