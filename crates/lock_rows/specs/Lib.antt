pub mod Books
pub mod Frozen
