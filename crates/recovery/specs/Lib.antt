pub mod Open
pub mod Planned
