pub mod Files
pub mod Streams
