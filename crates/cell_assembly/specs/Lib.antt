pub mod Cells
pub mod Made
pub mod Parts
pub mod Views
