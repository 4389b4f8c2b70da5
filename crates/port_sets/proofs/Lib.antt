pub mod Lifting
pub mod Keeping
pub mod Seating
pub mod Deciding
pub mod Stepping
pub mod Owning
pub mod Turning
pub mod Listing
