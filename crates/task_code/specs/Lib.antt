pub mod Owners
pub mod Armless
pub mod Live
pub mod IsCode
pub mod Reached
pub mod Leads
pub mod Asking
