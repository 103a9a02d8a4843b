pub mod Words
pub mod Grammar
pub mod Bodies
pub mod Reads
pub mod Modules
