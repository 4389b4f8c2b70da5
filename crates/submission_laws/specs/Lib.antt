pub mod Sent
pub mod Replied
pub mod Settled
pub mod Free
pub mod Files
pub mod Whole
