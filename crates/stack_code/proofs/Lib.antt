pub mod CodeAsked
pub mod Needs
pub mod Branches
mod Examples
mod Alike
mod Listings
