pub mod Words
pub mod Picked
