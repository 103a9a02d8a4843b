pub mod Stated
pub mod Texts
