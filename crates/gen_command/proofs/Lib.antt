pub mod Workloads
pub mod FirstShown
pub mod Memory
pub mod Refused
pub mod Cut
pub mod OneText
pub mod Looked
mod Lending
pub mod Came
