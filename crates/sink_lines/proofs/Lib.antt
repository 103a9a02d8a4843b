mod Examples
pub mod Lists
pub mod Sending
pub mod Gains
