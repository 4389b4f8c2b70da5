pub mod Phases
pub mod Masks
pub mod Hashes
pub mod Decided
pub mod Lanes
pub mod Stands
