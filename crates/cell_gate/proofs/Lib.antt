pub mod Histories
pub mod Views
pub mod Keeps
pub mod Asked
pub mod Turning
pub mod Dealing
pub mod Gathering
