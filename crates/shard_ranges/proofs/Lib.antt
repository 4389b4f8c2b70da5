pub mod Places
pub mod Entries
pub mod Opens
pub mod Grows
pub mod Numbers
