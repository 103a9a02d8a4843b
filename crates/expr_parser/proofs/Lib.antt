pub mod Ahead
pub mod Answered
pub mod Known
pub mod Taking
pub mod Operands
pub mod Bare
