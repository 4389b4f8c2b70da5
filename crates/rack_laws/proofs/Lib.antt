pub mod Opened
pub mod Rooms
pub mod Crashed
pub mod Audited
pub mod Caused
pub mod Files
pub mod Making
pub mod Openings
pub mod KeptRooms
pub mod Sound
mod Spelling
pub mod Verdicts
pub mod Small
