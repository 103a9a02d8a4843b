mod Examples
pub mod Served
pub mod Amid
pub mod Courses
pub mod Turning
pub mod Crews
pub mod Rounds
