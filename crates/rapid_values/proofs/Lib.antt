pub mod Changed
pub mod Lists
pub mod Made
pub mod Rows
pub mod Elements
mod Examples
pub mod Equalities
