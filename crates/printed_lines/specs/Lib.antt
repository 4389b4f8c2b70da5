pub mod Reports
pub mod Unspent
pub mod Recoveries
pub mod Decided
pub mod Runs
