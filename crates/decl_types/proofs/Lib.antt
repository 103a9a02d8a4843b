pub mod Elements
pub mod Sound
