pub mod Values
pub mod Data
pub mod Views
pub mod Parts
