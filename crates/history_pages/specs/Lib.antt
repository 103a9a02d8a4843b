pub mod Paged
pub mod Words
pub mod Values
pub mod Replies
pub mod Requests
pub mod Answers
pub mod Packing
pub mod Pages
