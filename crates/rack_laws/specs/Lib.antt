pub mod Shown
pub mod Files
pub mod Making
pub mod Openings
pub mod Ready
pub mod Small
