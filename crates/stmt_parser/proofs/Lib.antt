pub mod Ahead
pub mod Answered
pub mod Known
pub mod Lists
pub mod Begins
