pub mod Grammar
pub mod Lengths
pub mod Measures
pub mod Records
mod Walks
pub mod LogSizes
pub mod Rows
pub mod Cuts
