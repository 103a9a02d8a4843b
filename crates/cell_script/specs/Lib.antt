pub mod Break
pub mod Keys
pub mod Rows
pub mod ScriptOf
pub mod Gives
pub mod Parts
