pub mod Outcomes
pub mod Promises
