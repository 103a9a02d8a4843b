pub mod Linking
pub mod Lists
