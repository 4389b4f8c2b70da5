pub mod Command
pub mod Asked
pub mod Places
pub mod Values
pub mod Words
pub mod Refused
pub mod Single
pub mod Taken
