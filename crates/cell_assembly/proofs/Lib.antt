pub mod CellLimits
pub mod Kept
pub mod Holds
pub mod Joined
pub mod NameTables
pub mod SoundInfo
pub mod SoundTables
