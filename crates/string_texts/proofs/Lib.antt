pub mod Firsts
pub mod Continuing
pub mod Behind
pub mod Begun
