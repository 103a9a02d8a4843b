pub mod Sends
pub mod Printed
pub mod Written
