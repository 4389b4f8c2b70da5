pub mod Ends
pub mod PieceLemmas
pub mod Streaming
