pub mod UpTo
pub mod Least
pub mod Falling
pub mod Keeping
pub mod Moments
