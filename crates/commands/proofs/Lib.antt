pub mod Named
pub mod Naming
mod Placed
pub mod Did
pub mod Faults
pub mod Complete
mod Exact
mod InMemory
pub mod Spared
mod Survival
