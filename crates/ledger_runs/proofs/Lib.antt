pub mod Keeping
pub mod Finding
pub mod WaveKeeping
pub mod Sizes
pub mod Stays
pub mod WaveTelling
pub mod Others
pub mod Preparing
pub mod Faulting
pub mod Least
pub mod Flying
pub mod Onward
pub mod Launching
mod Plans
