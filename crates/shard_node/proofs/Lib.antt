pub mod Lanes
pub mod Rooms
pub mod Follows
pub mod Keeps
pub mod Owed
pub mod Stamps
pub mod Locks
pub mod Opens
