pub mod Contents
pub mod Inputs
pub mod Limits
