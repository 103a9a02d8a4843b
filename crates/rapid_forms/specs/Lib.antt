pub mod Signs
pub mod Forms
pub mod Names
pub mod Parsed
pub mod Reading
