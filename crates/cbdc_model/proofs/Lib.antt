-- What the proofs of several crates take from the definitions.
pub mod Telling
