pub mod Answered
pub mod Known
pub mod Precedence
