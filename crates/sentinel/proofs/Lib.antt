pub mod Coins
mod LineLemmas
mod KeyLemmas
mod ReadLemmas
pub mod PlaceLemmas
pub mod PermitSums
pub mod Ranks
