pub mod Refusals
pub mod Files
pub mod LoadFiles
pub mod ReadModules
pub mod Loaded
