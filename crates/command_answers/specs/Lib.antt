pub mod Scene
pub mod Causes
pub mod Texts
pub mod Left
pub mod Exact
pub mod Promises
