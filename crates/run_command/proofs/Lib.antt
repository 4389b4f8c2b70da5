pub mod Recovered
pub mod Printed
pub mod Inputs
