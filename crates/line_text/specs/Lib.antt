pub mod Lines
pub mod Faults
pub mod Spells
pub mod Reports
