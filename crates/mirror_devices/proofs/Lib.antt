pub mod Became
pub mod Even
pub mod Blank
