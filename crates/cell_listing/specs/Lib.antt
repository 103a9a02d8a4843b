pub mod OpListing
pub mod Listing
