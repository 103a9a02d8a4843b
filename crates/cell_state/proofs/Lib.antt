mod Dry
mod Arrived
mod TaskStates
mod Elements
mod TreeStates
mod TreePlaces
pub mod EventPlaces
pub mod Replayed
mod LastWrites
mod Starting
mod Examples
