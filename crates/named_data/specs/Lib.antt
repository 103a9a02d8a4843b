pub mod Rules
pub mod Wants
pub mod Data
pub mod Views
