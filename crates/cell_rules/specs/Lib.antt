pub mod Numbering
pub mod Declared
pub mod Given
pub mod First
pub mod Cell
pub mod Refused
