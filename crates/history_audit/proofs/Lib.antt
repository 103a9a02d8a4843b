mod Examples
pub mod Causes
pub mod Fronts
mod OneAudit
mod Doing
mod Scripts
mod Same
mod GivenFates
mod Outcome
mod Rests
mod Alike
