pub mod Leaving
pub mod Saying
pub mod Noting
