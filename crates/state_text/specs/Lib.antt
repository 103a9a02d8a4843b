pub mod StateLines
pub mod TraceLines
pub mod Seen
