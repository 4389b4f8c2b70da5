pub mod Deals
pub mod Sources
