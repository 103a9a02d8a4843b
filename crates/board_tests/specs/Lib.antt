pub mod Rows
pub mod Boards
