pub mod Entries
pub mod Slots
pub mod Members
pub mod LockMembers
