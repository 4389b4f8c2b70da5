pub mod Gathers
pub mod Digests
pub mod Rows
pub mod Circle
pub mod Places
pub mod Prefixes
pub mod Sizes
pub mod Keys
