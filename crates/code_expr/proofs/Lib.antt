pub mod Blocks
pub mod Builtins
pub mod Follow
pub mod Forms
pub mod Laid
pub mod Loops
pub mod Rows
pub mod Widths
