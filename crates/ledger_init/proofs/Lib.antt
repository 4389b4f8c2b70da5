pub mod Written
pub mod Sizes
pub mod Places
pub mod Dealt
