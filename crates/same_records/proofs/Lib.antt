pub mod Digests
pub mod Alikeness
pub mod Deciding
pub mod Keys
