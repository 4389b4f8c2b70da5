pub mod Making
pub mod Unmade
pub mod Did
mod Faulted
