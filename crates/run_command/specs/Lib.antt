pub mod Texts
pub mod RecoverOutcomes
pub mod Outcomes
pub mod Promises
