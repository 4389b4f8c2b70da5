pub mod Rest
pub mod Taking
pub mod InOrder
pub mod Onward
mod Untouched
mod Rooming
