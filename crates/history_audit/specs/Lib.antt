pub mod Wrongs
pub mod Audits
pub mod Followed
