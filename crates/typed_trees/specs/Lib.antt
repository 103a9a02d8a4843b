pub mod First
pub mod Plain
pub mod Labels
pub mod Views
pub mod Sound
