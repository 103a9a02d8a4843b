pub mod Range
pub mod Absent
pub mod Reach
pub mod Arithmetic
pub mod Characters
pub mod Literal
pub mod NumText
pub mod Reading
