pub mod Standing
pub mod Calls
pub mod Orderly
pub mod Following
pub mod Routines
pub mod Parts
pub mod Checked
pub mod Asking
