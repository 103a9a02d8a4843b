pub mod Output
pub mod EventsShown
pub mod Audits
