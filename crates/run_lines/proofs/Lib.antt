mod Examples
pub mod Fates
pub mod Printing
pub mod PrintingList
