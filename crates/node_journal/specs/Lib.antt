pub mod Nodes
pub mod Shown
pub mod Opening
pub mod Writing
pub mod Answered
pub mod Sound
