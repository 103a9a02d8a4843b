pub mod Lists
pub mod Numbers
pub mod Alike
pub mod Outcomes
pub mod Infos
pub mod Declares
pub mod Trees
pub mod Giving
pub mod Values
pub mod Rows
pub mod Once
pub mod Excluded
pub mod Right
mod Examples
