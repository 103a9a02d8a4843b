pub mod Tiling
pub mod Rows
pub mod Reaching
pub mod Fitting
pub mod Living
pub mod Leading
