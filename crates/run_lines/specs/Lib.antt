pub mod Told
pub mod Pages
pub mod Reports
