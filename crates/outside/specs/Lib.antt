pub mod Count
pub mod Told
pub mod Paths
pub mod Reads
pub mod Writes
pub mod MemoryShelf
pub mod MemorySink
pub mod StreamSink
