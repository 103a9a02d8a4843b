pub mod ModuleFiles
pub mod Untold
pub mod Loads
pub mod ReadModules
pub mod Parsing
pub mod TreesInTurn
pub mod Checking
pub mod Made
