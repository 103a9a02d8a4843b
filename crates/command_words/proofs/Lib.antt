mod Examples
mod Positions
mod Picking
mod ParsedMoves
pub mod Texts
pub mod Choosing
