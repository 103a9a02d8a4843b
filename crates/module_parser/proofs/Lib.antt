pub mod Ahead
pub mod Answered
pub mod Taking
pub mod OneModule
pub mod Texts
pub mod Nested
