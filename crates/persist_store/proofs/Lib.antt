pub mod Elements
pub mod PartsFit
pub mod Splices
pub mod Cells
pub mod Apart
pub mod Stored
pub mod Laid
