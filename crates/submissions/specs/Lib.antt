pub mod Checks
pub mod SoundTest
