pub mod Sums
pub mod RunLines
pub mod Decisions
pub mod Reports
pub mod Batched
pub mod Resumed
pub mod Numbers
pub mod Pages
