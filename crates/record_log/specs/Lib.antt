pub mod Bodies
pub mod Exact
pub mod Faults
pub mod Laws
pub mod Reading
pub mod Held
pub mod LogReading
pub mod Logs
