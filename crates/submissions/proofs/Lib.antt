pub mod Shares
pub mod Placing
pub mod Turning
pub mod Parts
pub mod Telling
