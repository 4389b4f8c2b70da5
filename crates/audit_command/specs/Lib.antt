pub mod Audits
pub mod Promises
