mod Freezing
pub mod Phasing
