pub mod Made
pub mod Places
