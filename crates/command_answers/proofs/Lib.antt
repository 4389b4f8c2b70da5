pub mod Counts
pub mod Answers
pub mod Silent
pub mod Refusals
pub mod Results
pub mod Parts
pub mod Kept
