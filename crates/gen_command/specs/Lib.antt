pub mod Watched
pub mod Generated
pub mod InMemory
pub mod Promises
