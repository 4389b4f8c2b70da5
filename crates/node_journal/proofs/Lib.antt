pub mod Leaving
pub mod Journals
pub mod Kept
pub mod Stops
pub mod Playing
pub mod Behind
pub mod Answered
pub mod Sound
