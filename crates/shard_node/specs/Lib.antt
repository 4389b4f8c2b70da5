pub mod Parts
pub mod Opening
