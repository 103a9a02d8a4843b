pub mod Lists
pub mod Mains
pub mod ParamRows
pub mod Sound
