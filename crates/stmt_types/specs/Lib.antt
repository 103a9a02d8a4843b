pub mod Labels
pub mod Bodies
pub mod Parts
pub mod Views
