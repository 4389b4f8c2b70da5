pub mod Items
pub mod Lines
pub mod Ledgers
