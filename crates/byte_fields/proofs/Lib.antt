pub mod Fields
pub mod Lengths
pub mod Lists
pub mod Loop
pub mod Readers
pub mod Parts
