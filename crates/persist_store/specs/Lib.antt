pub mod Stores
pub mod Rows
pub mod Lending
