pub mod Put
pub mod Steps
pub mod Same
pub mod Depths
pub mod Written
