pub mod Winners
pub mod Greatest
pub mod Faulted
pub mod Phasing
pub mod Rooming
mod Filling
pub mod Fitting
pub mod Cutting
mod Parting
mod Telling
mod Turning
mod Batching
pub mod Causing
pub mod Serving
pub mod Keeping
pub mod Wanting
pub mod Outcomes
